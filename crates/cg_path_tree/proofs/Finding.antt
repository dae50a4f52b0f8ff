-- What is found at a path in entries that hold no path twice.
use Rattle.std.proofs.Common.{◌≡◌, ◌≢◌, ◌⊎◌, ℕ, zero, suc, Bool, true, false, cond, List, [], ◌∷◌, ◌++◌, length, Option, None, Some, refl, sym, ap, ◌∙◌, inl, inr, arith}
use Rattle.std.specs.List.{slice_get}
use Rattle.std.specs.Ordering.{eq_by_cmp}
use Rattle.std.specs.FinMap.Entries.{find, find-append}
use Rattle.cg_maps.specs.FiniteMap.{from_entries, get}
use Rattle.cg_maps.proofs.Maps.{here, is_same, apart, cases, get-from_entries}
use Rattle.cg_name.specs.Order.{path_cmp_total, path_cmp_exact}
use Rattle.cg_name.specs.Path.{Path, path_cmp}
use Rattle.cg_path_tree.proofs.ListChanges.{same_some, some_not_none, pushed_cases, LosesAt, left_cases, still_there}

pub tell : (q p : Path) → (q ≡ p) ⊎ (q ≢ p)
tell = cases path_cmp_total path_cmp_exact

pub itself : (p : Path) → eq_by_cmp path_cmp p p ≡ true
itself = here path_cmp_total path_cmp_exact

pub differs : (q p : Path) → q ≢ p → eq_by_cmp path_cmp q p ≡ false
differs = apart path_cmp_total path_cmp_exact

pub get_by_find : {X : Type 0} (es : List (Path × X)) (q : Path) → get (from_entries path_cmp es) q ≡ find path_cmp q es
get_by_find es q = get-from_entries path_cmp_total path_cmp_exact es q

module _ {X : Type 0} where
  -- no path stands twice
  abbrev pub Once : List (Path × X) → Type 0
  Once es = (i j : ℕ) (e f : Path × X) → slice_get es i ≡ Some e → slice_get es j ≡ Some f → e.0 ≡ f.0 → i ≡ j

  pub once-rest : (e : Path × X) (es : List (Path × X)) → Once (e ∷ es) → Once es
  once-rest e es once i j a b h k same = let next : suc i ≡ suc j = once (suc i) (suc j) a b h k same in omega arith

  -- what stands somewhere is found
  pub found_at : (es : List (Path × X)) → Once es → (j : ℕ) (e : Path × X) → slice_get es j ≡ Some e → find path_cmp e.0 es ≡ Some e.1
  found_at [] once j e h = absurd (some_not_none e None h refl)
  found_at (f ∷ es) once zero e h =
      let same : f ≡ e = same_some f e h in
      ap (λ b. cond b (Some f.1) (find path_cmp e.0 es)) (ap (λ x. eq_by_cmp path_cmp e.0 x.0) same ∙ itself e.0) ∙ ap (λ x. Some x.1) same
  found_at (f ∷ es) once (suc j) e h =
      let ne : e.0 ≢ f.0 = λ same. let no : zero ≡ suc j = once zero (suc j) f e refl h (sym same) in absurd (omega arith) in
      ap (λ b. cond b (Some f.1) (find path_cmp e.0 es)) (differs e.0 f.0 ne) ∙ found_at es (once-rest f es once) j e h

  -- and what is found stands somewhere
  pub standing_of : (es : List (Path × X)) (p : Path) (x : X) → find path_cmp p es ≡ Some x → (j : ℕ) × (slice_get es j ≡ Some (p, x))
  standing_of [] p x h = absurd (some_not_none x None h refl)
  standing_of (f ∷ es) p x h = by (eq_by_cmp path_cmp p f.0) refl (standing_of es p x)
    where
      by : (b : Bool) → eq_by_cmp path_cmp p f.0 ≡ b → (find path_cmp p es ≡ Some x → (j : ℕ) × (slice_get es j ≡ Some (p, x))) → (j : ℕ) × (slice_get (f ∷ es) j ≡ Some (p, x))
      by true e rest =
          let at : Some f.1 ≡ Some x = sym (ap (λ b. cond b (Some f.1) (find path_cmp p es)) e) ∙ h in
          (zero, λ i. Some (sym (is_same path_cmp_total path_cmp_exact p f.0 e) i, same_some f.1 x at i))
      by false e rest =
          let later = rest (sym (ap (λ b. cond b (Some f.1) (find path_cmp p es)) e) ∙ h) in
          (suc later.0, later.1)

  pub absent_by : (o : Option X) → ((x : X) → o ≡ Some x → ⊥) → o ≡ None
  absent_by None h = refl
  absent_by (Some x) h = absurd (h x refl)

  -- ---- one more at the end

  pub find-push : (es : List (Path × X)) (p : Path) (x : X) → find path_cmp p es ≡ None → (q : Path) → find path_cmp q (es ++ (p, x) ∷ []) ≡ cond (eq_by_cmp path_cmp q p) (Some x) (find path_cmp q es)
  find-push es p x absent q = find-append path_cmp path_cmp_total es p x q absent

  pub once-push : (es : List (Path × X)) (p : Path) (x : X) → find path_cmp p es ≡ None → Once es → Once (es ++ (p, x) ∷ [])
  once-push es p x absent once i j e f h k same =
      elim (pushed_cases es (p, x) i e h) [
        | inl a ↦ elim (pushed_cases es (p, x) j f k) [
          | inl b ↦ once i j e f a b same
          | inr b ↦ absurd (some_not_none e.1 (find path_cmp p es) (ap (λ r. find path_cmp r es) (ap (λ (y : Path × X). y.0) b.1 ∙ sym same) ∙ found_at es once i e a) absent)
        ]
        | inr a ↦ elim (pushed_cases es (p, x) j f k) [
          | inl b ↦ absurd (some_not_none f.1 (find path_cmp p es) (ap (λ r. find path_cmp r es) (ap (λ (y : Path × X). y.0) a.1 ∙ same) ∙ found_at es once j f b) absent)
          | inr b ↦ a.0 ∙ sym b.0
        ]
      ]

  -- ---- one taken out

  module _ (es fs : List (Path × X)) (i : ℕ) (p : Path) (x : X) (loses : LosesAt es fs i) (at : slice_get es i ≡ Some (p, x)) (once : Once es) where
    -- where the path of an entry that is left stood before
    pub before : (j : ℕ) (e : Path × X) → slice_get fs j ≡ Some e → (k : ℕ) × (k ≢ i) × (slice_get es k ≡ Some e)
    before j e h = elim (left_cases es fs i loses j e h) [
      | inl a ↦ (length fs, (λ same. let low = a.1 in omega arith), a.2)
      | inr a ↦ (j, a.0, a.2)
    ]

    pub once-lose : Once fs
    once-lose j k e f h l same =
        elim (left_cases es fs i loses j e h) [
          | inl a ↦ elim (left_cases es fs i loses k f l) [
            | inl b ↦ a.0 ∙ sym b.0
            | inr b ↦ let no : length fs ≡ k = once (length fs) k e f a.2 b.2 same in let low = b.1 in absurd (omega arith)
          ]
          | inr a ↦ elim (left_cases es fs i loses k f l) [
            | inl b ↦ let no : j ≡ length fs = once j (length fs) e f a.2 b.2 same in let low = a.1 in absurd (omega arith)
            | inr b ↦ once j k e f a.2 b.2 same
          ]
        ]

    gone : find path_cmp p fs ≡ None
    gone = absent_by (find path_cmp p fs) (λ y found.
        let there = standing_of fs p y found in
        let was = before there.0 (p, y) there.1 in
        was.1 (once was.0 i (p, y) (p, x) was.2 at refl))

    same_as : (q : Path) → q ≢ p → (o : Option X) → find path_cmp q es ≡ o → find path_cmp q fs ≡ o
    same_as q ne None absent = absent_by (find path_cmp q fs) (λ y found.
        let there = standing_of fs q y found in
        let was = before there.0 (q, y) there.1 in
        some_not_none y (find path_cmp q es) (found_at es once was.0 (q, y) was.2) absent)
    same_as q ne (Some y) found =
        let there = standing_of es q y found in
        let other : there.0 ≢ i = λ same. ne (ap (λ (e : Path × X). e.0) (same_some (q, y) (p, x) (sym there.1 ∙ ap (slice_get es) same ∙ at))) in
        let now = still_there es fs i loses there.0 (q, y) there.1 other in
        found_at fs once-lose now.0 (q, y) now.1

    pub find-lose : (q : Path) → find path_cmp q fs ≡ cond (eq_by_cmp path_cmp q p) None (find path_cmp q es)
    find-lose q = elim (tell q p) [
      | inl same ↦ ap (λ r. find path_cmp r fs) same ∙ gone ∙ sym (ap (λ b. cond b None (find path_cmp q es)) (ap (λ r. eq_by_cmp path_cmp r p) same ∙ itself p))
      | inr ne ↦ same_as q ne (find path_cmp q es) refl ∙ sym (ap (λ b. cond b None (find path_cmp q es)) (differs q p ne))
    ]
