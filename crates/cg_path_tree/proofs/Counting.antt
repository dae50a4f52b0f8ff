-- How many entries a map has, of entries in no order that hold no path twice.
use Rattle.std.proofs.Common.{◌≡◌, zero, suc, ◌+◌, Bool, true, false, cond, List, [], ◌∷◌, length, Option, None, Some, refl, is_some, sym, ap, ◌∙◌, arith, add-one}
use Rattle.std.specs.List.{count_by}
use Rattle.std.specs.FinMap.Entries.{find, where_key, find-where_key, is_sorted-put, length-put}
use Rattle.cg_maps.specs.FiniteMap.{FiniteMap, empty, from_entries, get, set_at, insert, retain, len, list-checked}
use Rattle.cg_maps.proofs.Maps.{same_map, get-retain}
use Rattle.cg_name.specs.Order.{path_cmp_total, path_cmp_exact}
use Rattle.cg_name.specs.Path.{Path, path_cmp}
use Rattle.cg_path_tree.proofs.Finding.{Once, once-rest, absent_by, standing_of}
use Rattle.cg_path_tree.proofs.Finding.{get_by_find}
use Rattle.cg_path_tree.proofs.Parents.{count-cons}

len-empty : (X : Type 0) → len (empty {X = X} {R = path_cmp}) ≡ 0
unfolding len empty
len-empty X = refl

module _ {X : Type 0} where
  -- none is found again behind it
  abbrev pub Distinct : List (Path × X) → Type 0
  Distinct [] = Unit {0}
  Distinct (e ∷ es) = (find path_cmp e.0 es ≡ None) × Distinct es

  pub distinct_from_once : (es : List (Path × X)) → Once es → Distinct es
  distinct_from_once [] once = tt
  distinct_from_once (e ∷ es) once = (
    absent_by (find path_cmp e.0 es) (λ x h.
        let at = standing_of es e.0 x h in
        let no : zero ≡ suc at.0 = once zero (suc at.0) e (e.0, x) refl at.1 refl in
        absurd (omega arith)),
    distinct_from_once es (once-rest e es once),
  )

  len-set_new : (m : FiniteMap path_cmp X) (k : Path) (v : X) → get m k ≡ None → len (set_at m k (Some v)) ≡ suc (len m)
  unfolding get set_at insert len
  len-set_new m k v absent = ap length (list-checked _ _ refl m (is_sorted-put path_cmp path_cmp_total k v m.list m.sorted)) ∙ length-put path_cmp path_cmp_total k v m.list m.sorted ∙ ap (λ o. cond (is_some o) (length m.list) (length m.list + 1)) absent ∙ add-one (length m.list)

  pub len-from_entries : (es : List (Path × X)) → Distinct es → len (from_entries path_cmp es) ≡ length es
  len-from_entries [] d = len-empty X
  len-from_entries (e ∷ es) d = len-set_new (from_entries path_cmp es) e.0 e.1 (get_by_find es e.0 ∙ d.0) ∙ ap suc (len-from_entries es d.1)

  -- ---- those that pass a test

  module _ (test : Path → Bool) where
    find-kept : (q : Path) (es : List (Path × X)) → find path_cmp q (where_key path_cmp test es) ≡ cond (test q) (find path_cmp q es) None
    find-kept q es = find-where_key path_cmp test q (λ x e. ap test (sym (path_cmp_exact q x e))) es

    distinct_kept : (es : List (Path × X)) → Distinct es → Distinct (where_key path_cmp test es)
    distinct_kept [] d = tt
    distinct_kept (e ∷ es) d =
        let rest = distinct_kept es d.1 in
        let absent : find path_cmp e.0 (where_key path_cmp test es) ≡ None = find-kept e.0 es ∙ ap (λ o. cond (test e.0) o None) d.0 ∙ none (test e.0) in
        elim (test e.0) as (λ b. Distinct (cond b (e ∷ where_key path_cmp test es) (where_key path_cmp test es))) [ true ↦ (absent, rest) | false ↦ rest ]
      where
        none : (b : Bool) → cond {A = Option X} b None None ≡ None
        none true = refl
        none false = refl

    length-kept : (es : List (Path × X)) → length (where_key path_cmp test es) ≡ count_by (λ e. test e.0) es
    length-kept [] = refl
    length-kept (e ∷ es) = one (test e.0) (where_key path_cmp test es) (length-kept es) ∙ sym (count-cons (λ x. test x.0) e es)
      where
        one : (b : Bool) (made : List (Path × X)) → length made ≡ count_by (λ x. test x.0) es → length (cond b (e ∷ made) made) ≡ cond b 1 0 + count_by (λ x. test x.0) es
        one true made h = omega arith
        one false made h = omega arith

    pub count_is : (es : List (Path × X)) → Once es → count_by (λ e. test e.0) es ≡ len (retain (from_entries path_cmp es) test)
    count_is es once =
        let kept = where_key path_cmp test es in
        sym (length-kept es)
        ∙ sym (len-from_entries kept (distinct_kept es (distinct_from_once es once)))
        ∙ ap len (same_map path_cmp_total path_cmp_exact (from_entries path_cmp kept) (retain (from_entries path_cmp es) test) (λ q.
        get_by_find kept q ∙ find-kept q es ∙ ap (λ o. cond (test q) o None) (sym (get_by_find es q)) ∙ sym (get-retain path_cmp_total path_cmp_exact (from_entries path_cmp es) test q)))
