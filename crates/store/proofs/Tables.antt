-- The tree that stands in a table is the tree read from it.
use Rattle.std.proofs.Common.{◌≡◌, ℕ, zero, suc, ◌+◌, ◌*◌, ◌/◌, ◌<◌, ◌≤◌, List, length, drop, refl, inl, inr, zero-le, not-suc-le-zero, mul-le-mul_right, suc-mul, div-mul-le_self, arith}
use Rattle.std.proofs.lemmas.Bool.{lt-ltb, le-ltb}
use Rattle.std.proofs.lemmas.List.{length-map, length-take}
use Rattle.limits.specs.Capacity.{ceiling_for, capacity_for}
use Rattle.rules.specs.Entries.{Entry}
use Rattle.rules.specs.Trees.{top}
use Rattle.slots.specs.declared.slot.Slot.{Slot}
use Rattle.store.specs.Tables.{Rooted, leaf, node, size, In, Apart, Stands, Sound, slot_at, stored_at, word_at, rooted_at, rooted, plain}

-- an entry's word lies in the strip
pub in_strip : (p capacity ceiling count symbols : ℕ) → p < capacity → count ≤ ceiling → capacity * ceiling ≤ symbols → p * ceiling + count ≤ symbols
in_strip p capacity ceiling count symbols h k m =
    let e : suc p * ceiling ≤ capacity * ceiling = mul-le-mul_right ceiling h in
    let f : p * ceiling + ceiling ≤ capacity * ceiling = rw suc-mul at e in
    omega arith

-- it is no longer than its slot says
pub stored_short : {S : Type 0} (symbol : S → ℕ) (table : List Slot) (strip : List S) (ceiling p : ℕ) → length (word_at symbol table strip ceiling p) ≤ (slot_at table p).length
stored_short symbol table strip ceiling p =
    let m = length-map (stored_at table strip ceiling p) symbol in
    let t = length-take (slot_at table p).length (drop (p * ceiling) strip) in
    omega arith

module _ (table : List Slot) (capacity : ℕ) where
  -- each place of a tree that stands is below the capacity
  pub in_table : (place p : ℕ) (t : Rooted) → Stands table capacity place t → In p t → p < capacity
  in_table place p leaf s i = absurd i
  in_table place p (node l q m n r) s (inl e) = let a = s.0 in let b = s.1 in omega arith
  in_table place p (node l q m n r) s (inr (inl i)) = in_table (slot_at table place).left p l s.4 i
  in_table place p (node l q m n r) s (inr (inr i)) = in_table (slot_at table place).right p r s.5 i

  -- read deep enough, the tree that stands is what is read
  pub read_whole : (depth place : ℕ) (t : Rooted) → Stands table capacity place t → size t ≤ depth → rooted_at depth table capacity place ≡ t
  read_whole zero place leaf h k = refl
  read_whole (suc depth) place leaf h k = rw (le-ltb place capacity h)
  read_whole zero place (node l p m n r) h k = absurd (not-suc-le-zero k)
  read_whole (suc depth) place (node l p m n r) h k =
      let el = read_whole depth (slot_at table place).left l h.4 (omega arith) in
      let er = read_whole depth (slot_at table place).right r h.5 (omega arith) in
      rw (lt-ltb place capacity h.1, el, er, h.0, h.2, h.3)

  -- What a walk knows at a place below the capacity: the two trees below it stand and are smaller, and make up the tree there.
  pub record Turn (place : ℕ) (entry : ℕ → Entry) : Type 0 where
    pub stands_left : Stands table capacity (slot_at table place).left (rooted table capacity (slot_at table place).left)
    pub stands_right : Stands table capacity (slot_at table place).right (rooted table capacity (slot_at table place).right)
    pub smaller_left : size (rooted table capacity (slot_at table place).left) < size (rooted table capacity place)
    pub smaller_right : size (rooted table capacity (slot_at table place).right) < size (rooted table capacity place)
    pub here : In place (rooted table capacity place)
    pub in_left : (p : ℕ) → In p (rooted table capacity (slot_at table place).left) → In p (rooted table capacity place)
    pub in_right : (p : ℕ) → In p (rooted table capacity (slot_at table place).right) → In p (rooted table capacity place)
    pub tree : plain entry (rooted table capacity place)
        ≡ top (plain entry (rooted table capacity (slot_at table place).left)) (entry place) (slot_at table place).left_length (slot_at table place).right_length (plain entry (rooted table capacity (slot_at table place).right))

  turn_at : (place : ℕ) (entry : ℕ → Entry) (t : Rooted) → rooted table capacity place ≡ t → place < capacity → Stands table capacity place t → size t ≤ capacity → Turn place entry
  turn_at place entry leaf e h s k = absurd (let z : ⊥ = omega arith in z)
  turn_at place entry (node l p m n r) e h s k =
      let el = read_whole capacity (slot_at table place).left l s.4 (omega arith) in
      let er = read_whole capacity (slot_at table place).right r s.5 (omega arith) in
      record {
        stands_left = rw el s.4;
        stands_right = rw er s.5;
        smaller_left = rw (e, el) (omega arith);
        smaller_right = rw (e, er) (omega arith);
        here = rw (e, s.0) (inl refl);
        in_left = λ q. rw (e, el) (λ i. inr (inl i));
        in_right = λ q. rw (e, er) (λ i. inr (inr i));
        tree = rw (e, el, er, s.0, s.2, s.3);
      }

  pub turn : (place : ℕ) (entry : ℕ → Entry) → place < capacity → Stands table capacity place (rooted table capacity place) → size (rooted table capacity place) ≤ capacity → Turn place entry
  turn place entry h s k = turn_at place entry (rooted table capacity place) refl h s k

  -- a place from the capacity on
  pub none : (place : ℕ) → capacity ≤ place → rooted table capacity place ≡ leaf
  none place h = read_whole capacity place leaf h (omega arith)

  -- Memory is sound that keeps a tree which is right for it.
  pub sound_of : (symbols ceiling origin : ℕ) (t : Rooted) → capacity ≤ 16383 → 1 ≤ ceiling → ceiling ≤ 1024 → capacity ≤ length table → capacity * ceiling ≤ symbols
      → Stands table capacity origin t → Apart t → size t ≤ capacity → ((p : ℕ) → In p t → (slot_at table p).length ≤ ceiling) → Sound table symbols ceiling capacity origin
  sound_of symbols ceiling origin t few long short room strip stands once fits words =
      let e = read_whole capacity origin t stands fits in
      record {
        few = few;
        long = long;
        short = short;
        room = room;
        strip = strip;
        stands = rw e stands;
        once = rw e once;
        fits = rw e fits;
        words = rw e words;
      }

-- Any memory is sound for an empty dictionary, under the limits that it is opened with.
pub sound_empty : (table : List Slot) (symbols asked origin : ℕ) → capacity_for (length table) symbols asked ≤ origin
    → Sound table symbols (ceiling_for asked) (capacity_for (length table) symbols asked) origin
sound_empty table symbols asked origin far =
    let d = div-mul-le_self symbols (ceiling_for asked) in
    let q : capacity_for (length table) symbols asked ≤ symbols / ceiling_for asked = omega arith in
    let m : capacity_for (length table) symbols asked * ceiling_for asked ≤ symbols / ceiling_for asked * ceiling_for asked = mul-le-mul_right (ceiling_for asked) q in
    sound_of table (capacity_for (length table) symbols asked) symbols (ceiling_for asked) origin leaf
    (omega arith) (omega arith) (omega arith) (omega arith) (omega arith) far tt zero-le (λ p i. absurd i)
