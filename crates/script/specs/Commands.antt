-- Commands of a script.
use Rattle.std.specs.Prelude.{◌≡◌, ℕ, Bool, cond, List, [], ◌∷◌, length, Some, None, codes, Option, nat_lt}
use Rattle.std.specs.Borrow.{Bor}
use Rattle.std.specs.Char.{char_set_contains}
use Rattle.std.specs.List.{filter, slice_split}
use Rattle.std.specs.Str.{bytes_eq}
use Rattle.script.specs.declared.command.Kind.{Kind}
use Rattle.script.specs.declared.command.Kind.TheVariants.{Letters, Pen}
use Rattle.script.specs.declared.command.Command.{Command}
use Rattle.script.specs.declared.command.Command.TheVariants.{Open, Bring, Compare, Add, Find, Record, List as ListAll, Tally}
use Rattle.script.specs.Texts.{numeral}

-- a space or a tab
abbrev pub is_blank : ℕ → Bool
is_blank = char_set_contains (32 ∷ 9 ∷ [])

-- the words of a line: what stands between its spaces and tabs, where that is not empty
abbrev pub words_of : List ℕ → List (List ℕ)
words_of line = filter (λ w. nat_lt 0 (length w)) (slice_split is_blank line)

abbrev pub kind_name : Kind → List ℕ
kind_name Letters = codes "letters"
kind_name Pen = codes "pen"

-- the kind that a word names, or none
abbrev pub kind_of : List ℕ → Option Kind
kind_of word = cond (bytes_eq word (kind_name Letters)) (Some Letters) (cond (bytes_eq word (kind_name Pen)) (Some Pen) None)

-- a command has as many words as it needs, its name included
abbrev pub Worded : ℕ → Option Command → Type 0
Worded n None = Unit {0}
Worded n (Some (Open kind table strip ceiling)) = n ≡ 5
Worded n (Some (Bring strip work)) = n ≡ 3
Worded n (Some (Compare first second)) = n ≡ 3
Worded n (Some (Add word weight tag)) = n ≡ 4
Worded n (Some (Find word)) = n ≡ 2
Worded n (Some (Record hex place)) = n ≡ 3
Worded n (Some ListAll) = n ≡ 1
Worded n (Some Tally) = n ≡ 1

abbrev pub open_of : Option Kind → Option ℕ → Option ℕ → Option ℕ → Option Command
open_of (Some kind) (Some table) (Some strip) (Some ceiling) = Some (Open kind table strip ceiling)
open_of kind table strip ceiling = None

abbrev pub bring_of : Option ℕ → Option ℕ → Option Command
bring_of (Some strip) (Some work) = Some (Bring strip work)
bring_of strip work = None

abbrev pub add_of : Bor (List ℕ) → Option ℕ → Option ℕ → Option Command
add_of word (Some weight) (Some tag) = Some (Add word weight tag)
add_of word weight tag = None

abbrev pub record_of : Bor (List ℕ) → Option ℕ → Option Command
record_of hex (Some place) = Some (Record hex place)
record_of hex None = None

-- The command of a line's words, by the first of them and how many there are, or none.
abbrev pub command_of : List (Bor (List ℕ)) → Option Command
command_of (name ∷ []) = cond (bytes_eq name.now (codes "list")) (Some ListAll) (cond (bytes_eq name.now (codes "tally")) (Some Tally) None)
command_of (name ∷ word ∷ []) = cond (bytes_eq name.now (codes "find")) (Some (Find word)) None
command_of (name ∷ a ∷ b ∷ []) =
    cond (bytes_eq name.now (codes "bring")) (bring_of (numeral 64 a.now) (numeral 64 b.now))
    (cond (bytes_eq name.now (codes "compare")) (Some (Compare a b)) (cond (bytes_eq name.now (codes "record")) (record_of a (numeral 64 b.now)) None))
command_of (name ∷ word ∷ weight ∷ tag ∷ []) = cond (bytes_eq name.now (codes "add")) (add_of word (numeral 32 weight.now) (numeral 32 tag.now)) None
command_of (name ∷ kind ∷ table ∷ strip ∷ ceiling ∷ []) =
    cond (bytes_eq name.now (codes "open")) (open_of (kind_of kind.now) (numeral 64 table.now) (numeral 64 strip.now) (numeral 64 ceiling.now)) None
command_of words = None
