-- A search goes on for the word that it began with: a step that compares by the search compares by that word.
use Rattle.std.proofs.Common.{◌≡◌, ℕ, List, map, Ordering, ap, ◌∙◌}
use Rattle.std.specs.Borrow.{Bor}
use Rattle.words.specs.declared.comparison.Comparison.{Comparison}
use Rattle.slots.specs.declared.search.Shares.{Shares}
use Rattle.store.specs.declared.memory.Memory.{Memory}
use Rattle.store.specs.Lookups.{compared_at}
use Rattle.store.specs.Stores.{entry_of}

pub for_word : (order : ℕ → ℕ → Ordering) {S : Type 0} (symbol : S → ℕ) (m : Memory S) (p : ℕ) (k : Shares) {word word' : Bor (List S)} {c : Comparison}
    → c ≡ compared_at order (map symbol word'.now) (entry_of symbol m) m.table.now p k → word' ≡ word → c ≡ compared_at order (map symbol word.now) (entry_of symbol m) m.table.now p k
for_word order {S} symbol m p k h e = h ∙ ap (λ (z : Bor (List S)). compared_at order (map symbol z.now) (entry_of symbol m) m.table.now p k) e
