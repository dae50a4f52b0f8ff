-- Selecting from a history: what stands of it, and what goes when one stack loses its newest item.
use Rattle.std.proofs.Common.{◌≡◌, ℕ, suc, ◌≤◌, ◌<◌, Bool, true, false, [], ◌∷◌, length, drop, ◌==◌, refl, sym, ap, ◌∙◌, arith}
use Rattle.std.proofs.lemmas.Bool.{eqb-true, or_parts, false_from_ne_true}
use Rattle.std.specs.Prelude.{cond}
use Rattle.cg_name.specs.Name.{Name, same_name}
use Rattle.cg_model.specs.System.{System}
use Rattle.cg_model.specs.History.{Request, Do, Save, Back, Undo, Abort, Answer, Gave, Saved, WentBack, Aborted, History}
use Rattle.cg_model.specs.Live.{Item, Ran, AtSavepoint, Items, below, live_after, live, position, stands, item_of, joined_if, selected}
pub use Rattle.cg_core_laws.specs.Reordered.{transaction_of}
use Rattle.cg_core_laws.proofs.Interleaving.RunsOfStackEntries.{skip}

abbrev pub items_only : {y : System} → ℕ → Items y → Items y
items_only t [] = []
items_only t (x ∷ l) = joined_if (transaction_of x == t) x (items_only t l)

abbrev pub items_cut : {y : System} → ℕ → Items y → Items y
items_cut t [] = []
items_cut t (x ∷ l) = skip (transaction_of x == t) x l (items_cut t l)

-- the positions go down, from below n
abbrev pub Down : {y : System} → ℕ → Items y → Type 0
Down n [] = Unit {0}
Down n (x ∷ l) = (position x < n) × Down (position x) l

module _ (y : System) where
  pub owner_at : (r : Request y) (a : Answer) (t : ℕ) (h : History y) → transaction_of (item_of r a t h) ≡ t
  owner_at (Do c) (Gave a) t h = refl
  owner_at (Save n) a t h = refl
  owner_at _ _ t h = refl

  pub position_at : (r : Request y) (a : Answer) (t : ℕ) (h : History y) → position (item_of r a t h) ≡ length h
  position_at (Do c) (Gave a) t h = refl
  position_at (Save n) a t h = refl
  position_at _ _ t h = refl

  pub down_more : (n m : ℕ) (l : Items y) → n ≤ m → Down n l → Down m l
  down_more n m [] le d = tt
  down_more n m (x ∷ l) le d = (omega (arith, d.0), d.1)

  pub down_behind : (n : ℕ) (x : Item y) (l : Items y) → Down n (x ∷ l) → Down n l
  down_behind n x l d = down_more (position x) n l (omega (arith, d.0)) d.1

  -- a position from n on is not on it
  pub down_none : (n p : ℕ) (l : Items y) → Down n l → n ≤ p → stands p l ≡ false
  down_none n p [] d le = refl
  down_none n p (x ∷ l) d le =
      let e : (position x == p) ≡ false = false_from_ne_true (position x == p) (λ k. let q = eqb-true (position x) p k in let r = d.0 in omega arith) in
      rw e (down_none (position x) p l d.1 (omega (arith, d.0)))

  down_cond : (n : ℕ) (b : Bool) (l r : Items y) → Down n l → Down n r → Down n (cond b l r)
  down_cond n true l r d e = d
  down_cond n false l r d e = e

  pub down_below : (n : ℕ) (k : Name) (l : Items y) → Down n l → Down n (below k l)
  down_below n k [] d = tt
  down_below n k (Ran t h c a ∷ l) d = down_below n k l (down_behind n (Ran t h c a) l d)
  down_below n k (AtSavepoint t h m ∷ l) d = let e = down_behind n (AtSavepoint t h m) l d in down_cond n (same_name m k) _ _ e (down_below n k l e)

  down_tail : (n : ℕ) (l : Items y) → Down n l → Down n (drop 1 l)
  down_tail n [] d = tt
  down_tail n (x ∷ l) d = down_behind n x l d

  down_after : (r : Request y) (a : Answer) (t : ℕ) (h : History y) (l : Items y) → Down (length h) l → Down (suc (length h)) (live_after r a t h l)
  down_after (Do c) (Gave a) t h l d = (omega arith, d)
  down_after (Save n) Saved t h l d = (omega arith, d)
  down_after Undo (Gave a) t h l d = down_more (length h) _ (drop 1 l) (omega arith) (down_tail _ l d)
  down_after (Back n) (WentBack k) t h l d = down_more (length h) _ (below n l) (omega arith) (down_below _ n l d)
  down_after Abort (Aborted u) t h l d = tt
  down_after _ _ t h l d = down_more (length h) _ l (omega arith) d

  pub down_live : (t : ℕ) (h : History y) → Down (length h) (live t h)
  down_live t [] = tt
  down_live t (r ∷ h) =
      let d = down_live t h in
      down_cond (suc (length h)) (r.transaction == t) _ _ (down_after r.request r.answer r.transaction h (live t h) d) (down_more (length h) _ (live t h) (omega arith) d)

  -- stacks that agree on what is below n select alike there
  pub selected_same : (n : ℕ) (stacks stacks' : ℕ → Items y) → ((u p : ℕ) → p < n → stands p (stacks' u) ≡ stands p (stacks u)) → (g : History y) → length g ≤ n → selected stacks' g ≡ selected stacks g
  selected_same n stacks stacks' s [] le = refl
  selected_same n stacks stacks' s (r ∷ g) le =
      rw (s r.transaction (length g) (omega arith)) (ap (joined_if (stands (length g) (stacks r.transaction)) (item_of r.request r.answer r.transaction g)) (selected_same n stacks stacks' s g (omega arith)))

  -- t's stack loses its top q
  module _ (t : ℕ) (q : Item y) (l : Items y) (stacks stacks' : ℕ → Items y) (was : stacks t ≡ q ∷ l) (now : stacks' t ≡ l) (same : (u : ℕ) → (u == t) ≡ false → stacks' u ≡ stacks u) (gone : stands (position q) l ≡ false) where
    agree_step : (n u p : ℕ) (b : Bool) → (u == t) ≡ b → position q ≡ n → p < n → stands p (stacks' u) ≡ stands p (stacks u)
    agree_step n u p false k e lt = ap (stands p) (same u k)
    agree_step n u p true k e lt =
        let v = eqb-true u t k in
        let d : (position q == p) ≡ false = false_from_ne_true (position q == p) (λ i. let j = eqb-true (position q) p i in omega arith) in
        ap (λ w. stands p (stacks' w)) v ∙ ap (stands p) now ∙ sym (ap (λ w. stands p (stacks w)) v ∙ ap (stands p) was ∙ (rw d))

    pop_step : (u n : ℕ) (x : Item y) (g : History y) (rs : Items y) (k b : Bool) → (u == t) ≡ k → stands n (stacks u) ≡ b → transaction_of x ≡ u → position x ≡ n → length g ≡ n → ((rs' : Items y) → items_only t (selected stacks g) ≡ q ∷ rs' → selected stacks' g ≡ items_cut t (selected stacks g)) → items_only t (joined_if b x (selected stacks g)) ≡ q ∷ rs → joined_if (stands n (stacks' u)) x (selected stacks' g) ≡ items_cut t (joined_if b x (selected stacks g))
    pop_step u n x g rs true true k b ox px len i e =
        let own : (transaction_of x == t) ≡ true = ap (λ v. v == t) ox ∙ k in
        let e' = rw own at e in
        let xq : x ≡ q = cc e' in
        let pq : position q ≡ n = sym (ap position xq) ∙ px in
        let st : stands n (stacks' u) ≡ false = ap (λ v. stands n (stacks' v)) (eqb-true u t k) ∙ ap (stands n) now ∙ ap (λ m. stands m l) (sym pq) ∙ gone in
        rw (st, own) (selected_same n stacks stacks' (λ v p lt. agree_step n v p (v == t) refl pq lt) g (omega arith))
    pop_step u n x g rs true false k b ox px len i e =
        let v = eqb-true u t k in
        let at : stands n (q ∷ l) ≡ false = sym (ap (stands n) was) ∙ ap (λ w. stands n (stacks w)) (sym v) ∙ b in
        let st : stands n (stacks' u) ≡ false = ap (λ v. stands n (stacks' v)) v ∙ ap (stands n) now ∙ (or_parts (position q == n) (stands n l) at).1 in
        rw st (i rs e)
    pop_step u n x g rs false true k b ox px len i e =
        let own : (transaction_of x == t) ≡ false = ap (λ v. v == t) ox ∙ k in
        let st : stands n (stacks' u) ≡ true = ap (stands n) (same u k) ∙ b in
        rw (st, own) (ap (λ r. x ∷ r) (i rs (rw own at e)))
    pop_step u n x g rs false false k b ox px len i e =
        let st : stands n (stacks' u) ≡ false = ap (stands n) (same u k) ∙ b in
        rw st (i rs e)

    pub selected_pop : (g : History y) (rs : Items y) → items_only t (selected stacks g) ≡ q ∷ rs → selected stacks' g ≡ items_cut t (selected stacks g)
    selected_pop [] rs e = refl
    selected_pop (r ∷ g) rs e =
        pop_step r.transaction (length g) (item_of r.request r.answer r.transaction g) g rs (r.transaction == t) (stands (length g) (stacks r.transaction)) refl refl (owner_at r.request r.answer r.transaction g) (position_at r.request r.answer r.transaction g) refl (selected_pop g) e
