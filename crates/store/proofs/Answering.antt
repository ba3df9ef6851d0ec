-- What a call answers and leaves is what its rule says of the plain list with the limits.
use Rattle.std.proofs.Common.{◌≡◌, ℕ, ◌<◌, ◌≤◌, Bool, true, false, cond, ltb, List, [], ◌∷◌, length, is_some, Some, None, Ok, Err, filter, Option, Result, Ordering, sym, refl, ap, ◌∙◌, subst, arith}
use Rattle.std.specs.Ordering.{is_eq}
use Rattle.std.proofs.lemmas.List.{length-append}
use Rattle.std.proofs.lemmas.Bool.{lt-ltb, le-ltb, true≢false}
use Rattle.kinds.specs.Orders.{Lawful}
use Rattle.limits.specs.declared.bounds.Limits.{Limits}
use Rattle.limits.specs.declared.refusal.Refusal.{Refusal}
use Rattle.limits.specs.declared.refusal.Refusal.TheVariants.{WordHeld, CapacityReached}
use Rattle.limits.specs.Refusals.{Told, refused, told, word_refusal}
use Rattle.words.specs.Words.{word_order}
use Rattle.words.proofs.Orders.{words_lawful}
use Rattle.rules.specs.Calls.{Outcome, outcome, or_else, add_refusal, added}
use Rattle.rules.specs.Entries.{Entry}
use Rattle.rules.specs.Held.{ordered, entry_of, first_of, is_word, with}
use Rattle.rules.specs.Trees.{entries, TreeOf}
use Rattle.rules.specs.Walks.{lookup}
use Rattle.rules.proofs.Inserts.{Lacks}
use Rattle.rules.proofs.Lists.{ordered_with}
use Rattle.rules.proofs.Steps.{tree_inserted_by}
use Rattle.rules.proofs.Walks.{lookup_law}
use Rattle.store.specs.declared.memory.Memory.{Memory}
use Rattle.store.specs.Tables.{Rooted, leaf, node, size, plain}
use Rattle.store.specs.Stores.{FilledBy, FilledIn, tree, held, places}
use Rattle.store.specs.Stores.{entry_of as entry_in}
use Rattle.store.specs.Keeping.{Kept, Follows}

-- a tree of places has as many entries as places
length_entries : (E : ℕ → Entry) (t : Rooted) → length (entries (plain E t)) ≡ size t
length_entries E leaf = refl
length_entries E (node l p m n r) =
    let a = length_entries E l in
    let b = length_entries E r in
    let c = length-append (entries (plain E l)) (E p ∷ entries (plain E r)) in
    omega arith

-- an answer is no refusal
abbrev IsAnswer : Result ℕ Refusal → Type 0
IsAnswer (Ok n) = Unit {0}
IsAnswer (Err k) = ⊥

ok_not_err : {n : ℕ} {k : Refusal} → ◌≡◌ {A = Result ℕ Refusal} (Ok n) (Err k) → ⊥
ok_not_err e = subst IsAnswer e tt

-- as many entries are held as were counted
pub held_count : {S : Type 0} (symbol : S → ℕ) (m : Memory S) → FilledIn m → length (held symbol m) ≡ m.count
held_count symbol m F = length_entries (entry_in symbol m) (places m) ∙ F.counted

module _ (order : ℕ → ℕ → Ordering) {S : Type 0} (symbol : S → ℕ) (rule : Limits → List Entry → Outcome) (m : Memory S) where
  -- a refusal, where the rule has that cause
  pub refuses : (k : Refusal) (next : List Entry) → (Kept order symbol m → rule m.limits (held symbol m) ≡ outcome (Some (told k)) (held symbol m) next) → Follows order symbol rule m (Err k) m
  refuses k next f = record {
    limits = refl;
    unchanged = λ k' h. refl;
    answers = λ K. sym (ap (λ (o : Outcome). o.answer) (f K));
    holds = λ K. sym (ap (λ (o : Outcome). o.list) (f K));
    kept = λ K. K;
  }

  -- an answer, where the rule has no cause and the list is the one that it says
  pub accepts : (m' : Memory S) (n : ℕ) → m'.limits ≡ m.limits → n ≡ length (held symbol m') → (next : List Entry) → (Kept order symbol m → rule m.limits (held symbol m) ≡ outcome None (held symbol m) next)
      → (Kept order symbol m → held symbol m' ≡ next) → (Kept order symbol m → Kept order symbol m') → Follows order symbol rule m (Ok n) m'
  accepts m' n same counted next f g kept = record {
    limits = same;
    unchanged = λ k h. absurd (ok_not_err h);
    answers = λ K. ap Ok (counted ∙ ap length (g K)) ∙ sym (ap (λ (o : Outcome). o.answer) (f K));
    holds = λ K. g K ∙ sym (ap (λ (o : Outcome). o.list) (f K));
    kept = kept;
  }

module _ (order : ℕ → ℕ → Ordering) (law : Lawful order) where
  -- a word without an entry is no entry's word
  lacks_of : (w : List ℕ) (es : List Entry) → is_some (entry_of order w es) ≡ false → Lacks w es
  lacks_of w [] h = tt
  lacks_of w (e ∷ es) h = at (is_word order w e) refl h (lacks_of w es)
    where
      at : (b : Bool) → is_word order w e ≡ b → is_some (first_of (cond b (e ∷ filter (is_word order w) es) (filter (is_word order w) es))) ≡ false → (is_some (entry_of order w es) ≡ false → Lacks w es) → Lacks w (e ∷ es)
      at true f k rest = absurd (true≢false k)
      at false f k rest = ((λ g. true≢false (sym (ap is_eq ((words_lawful order law).itself w)) ∙ ap (λ (z : List ℕ). is_eq (word_order order w z)) g ∙ f)), rest k)

  module _ {S : Type 0} (symbol : S → ℕ) (e : Entry) (m : Memory S) where
    abbrev w : List ℕ
    w = e.word

    abbrev es : List Entry
    es = held symbol m

    -- the lookup by steps finds what the held list has
    finds : Kept order symbol m → (lookup order w 0 0 (tree symbol m)).found ≡ entry_of order w es
    finds K = (lookup_law order law es (tree symbol m) w K.sorted K.tree_of).finds

    -- what is left to ask once the word may stand in a dictionary
    abbrev cause : Bool → Bool → Option Told
    cause is_held has_room = cond is_held (Some (refused 3)) (cond has_room None (Some (refused 4)))

    pub word_refused : (k : Refusal) → word_refusal m.limits (length w) ≡ Some (told k) → Follows order symbol (added order e) m (Err k) m
    word_refused k c =
        refuses order symbol (added order e) m k (with order e es) (λ K. ap (λ (t : Option Told). outcome (or_else t (cause (is_some (entry_of order w es)) (ltb (length es) m.limits.capacity))) es (with order e es)) c)

    module _ (fits : word_refusal m.limits (length w) ≡ None) where
      asks : (is_held has_room : Bool) → is_some (entry_of order w es) ≡ is_held → (is_held ≡ false → ltb (length es) m.limits.capacity ≡ has_room) → add_refusal order m.limits e es ≡ cause is_held has_room
      asks true b c d =
          ap (λ (t : Option Told). or_else t (cause (is_some (entry_of order w es)) (ltb (length es) m.limits.capacity))) fits
          ∙ ap (λ (x : Bool). cause x (ltb (length es) m.limits.capacity)) c
      asks false b c d =
          ap (λ (t : Option Told). or_else t (cause (is_some (entry_of order w es)) (ltb (length es) m.limits.capacity))) fits
          ∙ ap (λ (x : Bool). cause x (ltb (length es) m.limits.capacity)) c
          ∙ ap (cause false) (d refl)

      pub word_held : is_some (lookup order w 0 0 (tree symbol m)).found ≡ true → Follows order symbol (added order e) m (Err WordHeld) m
      word_held c =
          refuses order symbol (added order e) m WordHeld (with order e es)
          (λ K. ap (λ (t : Option Told). outcome t es (with order e es)) (asks true true (ap is_some (sym (finds K)) ∙ c) (λ f. absurd (true≢false f))))

      module _ (F : FilledIn m) (absent : is_some (lookup order w 0 0 (tree symbol m)).found ≡ false) where
        not_held : Kept order symbol m → is_some (entry_of order w es) ≡ false
        not_held K = ap is_some (sym (finds K)) ∙ absent

        pub capacity_reached : m.limits.capacity ≤ m.count → Follows order symbol (added order e) m (Err CapacityReached) m
        capacity_reached full =
            refuses order symbol (added order e) m CapacityReached (with order e es)
            (λ K. ap (λ (t : Option Told). outcome t es (with order e es)) (asks false false (not_held K) (λ f. le-ltb (length es) m.limits.capacity (let c = held_count symbol m F in omega arith))))

        module _ (room : m.count < m.limits.capacity) (m' : Memory S) (B : FilledBy symbol order e m m') where
          grows : Kept order symbol m → TreeOf order (with order e es) (tree symbol m')
          grows K =
              subst (TreeOf order (with order e es)) (sym B.tree_by)
              (tree_inserted_by order law e es (tree symbol m) K.sorted (lacks_of w es (not_held K)) K.tree_of)

          pub entry_added : (n : ℕ) → n ≡ m'.count → Follows order symbol (added order e) m (Ok n) m'
          entry_added n answer =
              accepts order symbol (added order e) m m' n B.limits (answer ∙ sym (held_count symbol m' B.filled)) (with order e es)
              (λ K. ap (λ (t : Option Told). outcome t es (with order e es)) (asks false true (not_held K) (λ f. lt-ltb (length es) m.limits.capacity (let c = held_count symbol m F in omega arith))))
              (λ K. (grows K).holds)
              (λ K. record {
                sorted = subst (λ (z : List Entry). ordered order z ≡ true) (sym (grows K).holds) (ordered_with order law e es K.sorted);
                tree_of = subst (λ (z : List Entry). TreeOf order z (tree symbol m')) (sym (grows K).holds) (grows K);
              })
