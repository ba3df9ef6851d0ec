-- What a reading of a text answers.
use Rattle.std.specs.Prelude.{◌≡◌, ℕ, List, codes, Some, None, Ok, Err, Option, Result}
use Rattle.script.specs.declared.error.ReadError.{ReadError}
use Rattle.script.specs.declared.error.ReadError.TheVariants.{Unreadable, OutOfMemory}

-- A reading gives what the text says, as f sees it, and is unreadable where the text says nothing. Memory alone may fail it otherwise.
abbrev pub Reads : {A B : Type 0} → (A → B) → Option B → Result A ReadError → Type 0
Reads f said (Ok x) = said ≡ Some (f x)
Reads f said (Err Unreadable) = said ≡ None
Reads f said (Err OutOfMemory) = Unit {0}

-- what is printed of an error
abbrev pub error_text : ReadError → List ℕ
error_text Unreadable = codes "cannot be read"
error_text OutOfMemory = codes "out of memory"
