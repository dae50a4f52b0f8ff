-- What is told of one text more.
use Rattle.std.proofs.Common.{◌≡◌, ◌⊎◌, ℕ, ◌+◌, ◌<◌, ◌&&◌, Bool, true, false, List, [], ◌∷◌, ◌++◌, get_or, length, take, Option, None, Some, Result, Ok, Err, OnErr, inl, inr, refl, sym, ap, subst, ◌∙◌, append-nil}
use Rattle.std.proofs.lemmas.Grind.{flat_map-append}
use Rattle.std.proofs.lemmas.List.{map-append, take_more}
use Rattle.std.proofs.lemmas.List.Folds.{list_all-append}
use Rattle.std.specs.Io.KnownBytes.{Appends, Keeps}
use Rattle.std.specs.List.{AllByRecursion, flat_map, list_all}
use Rattle.cg_json.specs.Text.{json_line}
use Rattle.cg_check.specs.declared.kind.Kind.{Kind}
use Rattle.cg_lines.proofs.DeviceLemmas.{Appends-append, Appends-nil, AppendsFront-whole, AppendsTo-front}
use Rattle.cg_lines.specs.Device.{AppendsFront}
use Rattle.cg_checked_files.specs.Told.{has_none, lines_of_values, told_lines, told_values, AppendsFrontOfOne, AppendsFrontTold, AppendsOne, AppendsTold, AreTold, IsToldRight, Told}

-- one element more is such an element too
all_last : {X : Type 0} (P : X → Type 0) (xs : List X) (x : X) → AllByRecursion P xs → P x → AllByRecursion P (xs ++ x ∷ [])
all_last P [] x all this = (this, tt)
all_last P (y ∷ xs) x all this = (all.0, all_last P xs x all.1 this)

-- a text more
told_last : (standard : Option (List ℕ)) (file : List ℕ → Option (List ℕ)) (asked : Option Kind) (names : List (List ℕ)) (name : List ℕ) (ts : List Told) (t : Told)
    → AreTold standard file asked names ts → t.name ≡ name → IsToldRight standard file asked t → AreTold standard file asked (names ++ name ∷ []) (ts ++ t ∷ [])
told_last standard file asked names name ts t before is right = record {
  of_names = map-append (λ (x : Told). x.name) ts (t ∷ []) ∙ ap (λ l. l ++ t.name ∷ []) before.of_names ∙ ap (λ n. names ++ n ∷ []) is;
  each = all_last (IsToldRight standard file asked) ts t before.each right;
}

-- its lines stand behind the others
lines_last : (ts : List Told) (t : Told) → lines_of_values (flat_map told_values ts) ++ told_lines t ≡ lines_of_values (flat_map told_values (ts ++ t ∷ []))
lines_last ts t =
    let values : flat_map told_values (ts ++ t ∷ []) ≡ flat_map told_values ts ++ told_values t
    = flat_map-append told_values ts (t ∷ []) ∙ ap (λ l. flat_map told_values ts ++ l) (append-nil (told_values t)) in
    sym (ap lines_of_values values ∙ flat_map-append json_line (flat_map told_values ts) (told_values t))

-- and with it all have no fault where the others have none, and it has none
none_last : (ts : List Told) (t : Told) → list_all has_none (ts ++ t ∷ []) ≡ (list_all has_none ts && has_none t)
none_last ts t = list_all-append has_none ts (t ∷ []) ∙ ap (λ b. list_all has_none ts && b) (and_true (has_none t))
  where
    and_true : (b : Bool) → (b && true) ≡ b
    and_true true = refl
    and_true false = refl

-- nothing is told of no texts
pub none_told : (standard : Option (List ℕ)) (file : List ℕ → Option (List ℕ)) (asked : Option Kind) (old : Option (List ℕ)) → AppendsTold standard file asked [] true old old
none_told standard file asked old = ([], record { of_names = refl; each = tt }, refl, Appends-nil old old (kept old))
  where
    kept : (o : Option (List ℕ)) → Keeps o o
    kept None = tt
    kept (Some xs) = refl

-- what is told of one more is appended
pub one_more : (standard : Option (List ℕ)) (file : List ℕ → Option (List ℕ)) (asked : Option Kind) (names : List (List ℕ)) (name : List ℕ) (are_right is_right : Bool) (old between new : Option (List ℕ))
    → AppendsTold standard file asked names are_right old between → AppendsOne standard file asked name is_right between new → AppendsTold standard file asked (names ++ name ∷ []) (are_right && is_right) old new
one_more standard file asked names name are_right is_right old between new before this =
    let first = before.0 in
    let last = this.0 in (
      first ++ last ∷ [],
      told_last standard file asked names name first last before.1 this.1 this.2,
      none_last first last ∙ (λ i. before.2 i && this.3 i),
      subst (Appends old new) (lines_last first last) (Appends-append old between new (lines_of_values (flat_map told_values first)) (told_lines last) before.3 this.4),
    )

-- a front of it is
pub one_front : (standard : Option (List ℕ)) (file : List ℕ → Option (List ℕ)) (asked : Option Kind) (names : List (List ℕ)) (i : ℕ) (d : List ℕ) (are_right : Bool) (old between new : Option (List ℕ)) → i < length names
    → AppendsTold standard file asked (take i names) are_right old between → AppendsFrontOfOne standard file asked (get_or names i d) between new → AppendsFrontTold standard file asked names old new
one_front standard file asked names i d are_right old between new within before (inl same) =
    (i, before.0, before.1, subst (λ o. AppendsFront old o (lines_of_values (flat_map told_values before.0))) (sym same) (AppendsFront-whole old between (lines_of_values (flat_map told_values before.0)) before.3))
one_front standard file asked names i d are_right old between new within before (inr this) =
    let first = before.0 in
    let last = this.0 in
    let lines = lines_of_values (flat_map told_values first) in (
      i + 1,
      first ++ last ∷ [],
      subst (λ ns. AreTold standard file asked ns (first ++ last ∷ [])) (sym (take_more names i d within)) (told_last standard file asked (take i names) (get_or names i d) first last before.1 this.1 this.2),
      subst (AppendsFront old new) (lines_last first last) (AppendsTo-front old between new (lines ++ told_lines last) (told_lines last) (lines, refl, before.3) this.3),
    )

-- nothing of it is, or a front
pub one_written : (standard : Option (List ℕ)) (file : List ℕ → Option (List ℕ)) (asked : Option Kind) (name : List ℕ) (t : Told) (old new : Option (List ℕ)) → t.name ≡ name → IsToldRight standard file asked t
    → (new ≡ old) ⊎ AppendsFront old new (told_lines t) → AppendsFrontOfOne standard file asked name old new
one_written standard file asked name t old new is right (inl same) = inl same
one_written standard file asked name t old new is right (inr front) = inr (t, is, right, front)

pub on_any_err : {A E : Type 0} (r : Result A E) {P : Type 0} → P → OnErr r P
on_any_err (Ok x) p = tt
on_any_err (Err e) p = p
