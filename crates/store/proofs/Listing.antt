-- An entry of the table with its lengths is that entry of the held list with the lengths that the list says, and the nearest one is the list's.
use Rattle.std.proofs.Common.{◌≡◌, ℕ, List, Some, None, Option, Ordering, sym, refl, ap, ◌∙◌, inl, inr}
use Rattle.std.specs.Option.{option_map}
use Rattle.kinds.specs.Orders.{Lawful}
use Rattle.rules.specs.Entries.{Entry}
use Rattle.rules.specs.Lookups.{left_length_of, right_length_of}
use Rattle.rules.proofs.Neighbours.{preceding_is, following_is}
use Rattle.rules.proofs.Places.{Measures, lengths_of_list}
use Rattle.slots.specs.declared.slot.Side.{Side}
use Rattle.slots.specs.declared.slot.Side.TheVariants.{Left, Right}
use Rattle.slots.specs.declared.slot.Slot.{Slot}
use Rattle.store.specs.declared.memory.Memory.{Memory}
use Rattle.store.specs.Entries.{listed_at, listed_in}
use Rattle.store.specs.Keeping.{Kept}
use Rattle.store.specs.Neighbours.{nearest, nearest_by}
use Rattle.store.specs.Stores.{entry_of, held, places, tree}
use Rattle.store.specs.Tables.{Rooted, leaf, node, In, Stands, plain, slot_at}

module _ (T : List Slot) (capacity : ℕ) (E : ℕ → Entry) (f g : Entry → ℕ) where
  -- the lengths of each place of a tree that stands, where the tree's lengths are what f and g say
  measured_at : (q : ℕ) (t : Rooted) → Stands T capacity q t → Measures f g (plain E t) → (p : ℕ) → In p t → ((slot_at T p).left_length ≡ f (E p)) × ((slot_at T p).right_length ≡ g (E p))
  measured_at q leaf s k p i = absurd i
  measured_at q (node l x m n r) s k p (inl e) =
      let here = e ∙ s.0 in
      (ap (λ (z : ℕ). (slot_at T z).left_length) here ∙ sym s.2 ∙ k.0 ∙ ap (λ (z : ℕ). f (E z)) (sym e), ap (λ (z : ℕ). (slot_at T z).right_length) here ∙ sym s.3 ∙ k.1 ∙ ap (λ (z : ℕ). g (E z)) (sym e))
  measured_at q (node l x m n r) s k p (inr (inl i)) = measured_at (slot_at T q).left l s.4 k.2 p i
  measured_at q (node l x m n r) s k p (inr (inr i)) = measured_at (slot_at T q).right r s.5 k.3 p i

module _ (order : ℕ → ℕ → Ordering) (law : Lawful order) {S : Type 0} (symbol : S → ℕ) (m : Memory S) (stands : Stands m.table.now m.limits.capacity m.top (places m)) (K : Kept order symbol m) where
  abbrev es : List Entry
  es = held symbol m

  listed_is : (p : ℕ) → In p (places m) → listed_at symbol m p ≡ listed_in order es (entry_of symbol m p)
  listed_is p i =
      let k = measured_at m.table.now m.limits.capacity (entry_of symbol m) (left_length_of order es) (right_length_of order es) m.top (places m) stands (lengths_of_list order law es (tree symbol m) K.sorted K.tree_of) p i in
      λ j. record { entry = entry_of symbol m p; left = k.0 j; right = k.1 j }

  nearest_is : (side : Side) (w : List ℕ) → nearest_by order side w 0 0 None (tree symbol m) ≡ nearest order side w es
  nearest_is Left w = preceding_is order law es (tree symbol m) w K.sorted K.tree_of
  nearest_is Right w = following_is order law es (tree symbol m) w K.sorted K.tree_of

  -- the nearest entry of the table is the list's, lengths too
  pub nearest_listed : (side : Side) (w : List ℕ) (found : Option ℕ) → option_map (entry_of symbol m) found ≡ nearest_by order side w 0 0 None (tree symbol m) → ((p : ℕ) → found ≡ Some p → In p (places m))
      → option_map (listed_at symbol m) found ≡ option_map (listed_in order es) (nearest order side w es)
  nearest_listed side w found e i = at found i ∙ ap (option_map (listed_in order es)) (e ∙ nearest_is side w)
    where
      at : (o : Option ℕ) → ((p : ℕ) → o ≡ Some p → In p (places m)) → option_map (listed_at symbol m) o ≡ option_map (listed_in order es) (option_map (entry_of symbol m) o)
      at None k = refl
      at (Some p) k = ap Some (listed_is p (k p refl))
