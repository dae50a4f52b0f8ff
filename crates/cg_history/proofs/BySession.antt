-- Entries, the oldest first, as values by sessions.
use Rattle.std.proofs.Common.{◌≡◌, ℕ, ◌+◌, ◌==◌, Bool, true, false, cond, List, [], ◌∷◌, ◌++◌, length, Option, Some, None, is_some, option_map, slice_get, refl, sym, ap, ◌∙◌, true≢false, arith}
use Rattle.std.proofs.lemmas.Bool.{eqb-true, eq-eqb}
use Rattle.std.proofs.lemmas.List.{length-append}
use Rattle.std.specs.Map.{lookup, remove_entry, set_value}
use Rattle.cg_history.specs.declared.session.SessionId.{SessionId}
use Rattle.cg_history.specs.SessionMap.{by_session, found, oldest, with_value, without, IsOnceEach}

-- sessions are compared as numbers
eqb-swapped : (a b : ℕ) → (a == b) ≡ (b == a)
eqb-swapped a b = at (a == b) (b == a) refl refl
  where
    at : (x y : Bool) → (a == b) ≡ x → (b == a) ≡ y → x ≡ y
    at true true p q = refl
    at false false p q = refl
    at true false p q = absurd (true≢false (sym (eq-eqb b a (sym (eqb-true a b p))) ∙ q))
    at false true p q = absurd (true≢false (sym (eq-eqb a b (sym (eqb-true b a q))) ∙ p))

module _ {V : Type 0} where
  -- the first that is there
  abbrev or_else : Option V → Option V → Option V
  or_else (Some v) o = Some v
  or_else None o = o

  or_else-cond : (b : Bool) (v : V) (o r : Option V) → cond b (Some v) (or_else o r) ≡ or_else (cond b (Some v) o) r
  or_else-cond true v o r = refl
  or_else-cond false v o r = refl

  found-append : (s : ℕ) (xs ys : List (ℕ × V)) → found s (xs ++ ys) ≡ or_else (found s xs) (found s ys)
  found-append s [] ys = refl
  found-append s (x ∷ xs) ys = ap (cond (x.0 == s) (Some x.1)) (found-append s xs ys) ∙ or_else-cond (x.0 == s) x.1 (found s xs) (found s ys)

  or_else_none : (o r : Option V) → or_else o r ≡ None → (o ≡ None) × (r ≡ None)
  or_else_none None r e = (refl, e)
  or_else_none (Some v) r e = absurd (true≢false (ap is_some e))

  -- the parts of a list in which each session stands once
  pub parts_once : (xs : List (ℕ × V)) (y : ℕ × V) → IsOnceEach (xs ++ y ∷ []) → IsOnceEach xs × (found y.0 xs ≡ None)
  parts_once [] y h = (tt, refl)
  parts_once (x ∷ xs) y h =
      let first : (found x.0 xs ≡ None) × (found x.0 (y ∷ []) ≡ None) = or_else_none (found x.0 xs) (found x.0 (y ∷ [])) (sym (found-append x.0 xs (y ∷ [])) ∙ h.0) in
      let rest : IsOnceEach xs × (found y.0 xs ≡ None) = parts_once xs y h.1 in
      ((first.0, rest.0), at (x.0 == y.0) refl first.1 rest.1)
    where
      at : (b : Bool) → (x.0 == y.0) ≡ b → found x.0 (y ∷ []) ≡ None → found y.0 xs ≡ None → found y.0 (x ∷ xs) ≡ None
      at false e f r = ap (λ c. cond c (Some x.1) (found y.0 xs)) e ∙ r
      at true e f r = absurd (true≢false (sym (ap (λ c. is_some (cond c (Some y.1) None)) (eqb-swapped y.0 x.0 ∙ e)) ∙ ap is_some f))

  -- the value that a look-up finds
  pub found_is : (s : ℕ) (es : List (SessionId × V)) → IsOnceEach (by_session es) → lookup (λ k. s == k.0) es ≡ found s (by_session es)
  found_is s [] h = refl
  found_is s (e ∷ es) h =
      let parts : IsOnceEach (by_session es) × (found e.0.0 (by_session es) ≡ None) = parts_once (by_session es) (e.0.0, e.1) h in
      at (s == e.0.0) refl parts.1 (found_is s es parts.0) ∙ sym (found-append s (by_session es) ((e.0.0, e.1) ∷ []))
    where
      at : (b : Bool) → (s == e.0.0) ≡ b → found e.0.0 (by_session es) ≡ None → lookup (λ k. s == k.0) es ≡ found s (by_session es)
          → lookup (λ k. s == k.0) (e ∷ es) ≡ or_else (found s (by_session es)) (found s ((e.0.0, e.1) ∷ []))
      at true p none rest =
          ap (λ c. cond c (Some e.1) (lookup (λ k. s == k.0) es)) p
          ∙ sym (ap (λ o. or_else o (found s ((e.0.0, e.1) ∷ []))) (ap (λ n. found n (by_session es)) (eqb-true s e.0.0 p) ∙ none)
          ∙ ap (λ c. cond c (Some e.1) None) (eqb-swapped e.0.0 s ∙ p))
      at false p none rest =
          ap (λ c. cond c (Some e.1) (lookup (λ k. s == k.0) es)) p ∙ rest
          ∙ sym (ap (λ c. or_else (found s (by_session es)) (cond c (Some e.1) None)) (eqb-swapped e.0.0 s ∙ p) ∙ nothing_else (found s (by_session es)))
        where
          nothing_else : (o : Option V) → or_else o None ≡ o
          nothing_else None = refl
          nothing_else (Some v) = refl

  -- ---- the session that came first

  oldest-append : (xs : List (ℕ × V)) (x : ℕ × V) → oldest (xs ++ x ∷ []) ≡ Some x.0
  oldest-append [] x = refl
  oldest-append (y ∷ []) x = refl
  oldest-append (y ∷ z ∷ xs) x = oldest-append (z ∷ xs) x

  -- it is that of the first entry
  pub first_came : (es : List (SessionId × V)) (e : SessionId × V) → slice_get es 0 ≡ Some e → oldest (by_session es) ≡ Some e.0.0
  first_came [] e is = absurd (true≢false (sym (ap is_some is)))
  first_came (f ∷ es) e is = oldest-append (by_session es) (f.0.0, f.1) ∙ ap (option_map (λ (x : SessionId × V). x.0.0)) is

  -- ---- a value is written

  with_value-append : (s : ℕ) (w : V) (xs ys : List (ℕ × V)) → with_value s w (xs ++ ys) ≡ with_value s w xs ++ with_value s w ys
  with_value-append s w [] ys = refl
  with_value-append s w (x ∷ xs) ys = ap (λ l. (x.0, cond (x.0 == s) w x.1) ∷ l) (with_value-append s w xs ys)

  cond_some_none : (b : Bool) (v : V) (o : Option V) → cond b (Some v) o ≡ None → (b ≡ false) × (o ≡ None)
  cond_some_none true v o e = absurd (true≢false (ap is_some e))
  cond_some_none false v o e = (refl, e)

  -- where the session has none, nothing is written
  with_value-absent : (s : ℕ) (w : V) (xs : List (ℕ × V)) → found s xs ≡ None → with_value s w xs ≡ xs
  with_value-absent s w [] e = refl
  with_value-absent s w (x ∷ xs) e =
      let absent : ((x.0 == s) ≡ false) × (found s xs ≡ None) = cond_some_none (x.0 == s) x.1 (found s xs) e in
      (λ i. (x.0, cond (absent.0 i) w x.1) ∷ with_value-absent s w xs absent.1 i)

  pub written_is : (s : ℕ) (w : V) (es : List (SessionId × V)) → IsOnceEach (by_session es) → by_session (set_value (λ k. s == k.0) es w) ≡ with_value s w (by_session es)
  written_is s w [] h = refl
  written_is s w (e ∷ es) h =
      let parts : IsOnceEach (by_session es) × (found e.0.0 (by_session es) ≡ None) = parts_once (by_session es) (e.0.0, e.1) h in
      at (s == e.0.0) refl parts.1 (written_is s w es parts.0) ∙ sym (with_value-append s w (by_session es) ((e.0.0, e.1) ∷ []))
    where
      at : (b : Bool) → (s == e.0.0) ≡ b → found e.0.0 (by_session es) ≡ None → by_session (set_value (λ k. s == k.0) es w) ≡ with_value s w (by_session es)
          → by_session (set_value (λ k. s == k.0) (e ∷ es) w) ≡ with_value s w (by_session es) ++ with_value s w ((e.0.0, e.1) ∷ [])
      at true p none rest =
          ap (λ c. by_session (cond c ((e.0, w) ∷ es) (e ∷ set_value (λ k. s == k.0) es w))) p
          ∙ (λ i. sym (with_value-absent s w (by_session es) (ap (λ n. found n (by_session es)) (eqb-true s e.0.0 p) ∙ none)) i ++ (e.0.0, cond (sym (eqb-swapped e.0.0 s ∙ p) i) w e.1) ∷ [])
      at false p none rest =
          ap (λ c. by_session (cond c ((e.0, w) ∷ es) (e ∷ set_value (λ k. s == k.0) es w))) p
          ∙ (λ i. rest i ++ (e.0.0, cond (sym (eqb-swapped e.0.0 s ∙ p) i) w e.1) ∷ [])

  found_none_written : (s t : ℕ) (w : V) (xs : List (ℕ × V)) → found t xs ≡ None → found t (with_value s w xs) ≡ None
  found_none_written s t w [] e = refl
  found_none_written s t w (x ∷ xs) e =
      let absent : ((x.0 == t) ≡ false) × (found t xs ≡ None) = cond_some_none (x.0 == t) x.1 (found t xs) e in
      ap (λ c. cond c (Some (cond (x.0 == s) w x.1)) (found t (with_value s w xs))) absent.0 ∙ found_none_written s t w xs absent.1

  pub written_once : (s : ℕ) (w : V) (xs : List (ℕ × V)) → IsOnceEach xs → IsOnceEach (with_value s w xs)
  written_once s w [] h = tt
  written_once s w (x ∷ xs) h = (found_none_written s x.0 w xs h.0, written_once s w xs h.1)

  -- ---- a value is taken out

  without-append : (s : ℕ) (xs ys : List (ℕ × V)) → without s (xs ++ ys) ≡ without s xs ++ without s ys
  without-append s [] ys = refl
  without-append s (x ∷ xs) ys = ap (λ l. cond (x.0 == s) l (x ∷ l)) (without-append s xs ys) ∙ at (x.0 == s)
    where
      at : (b : Bool) → cond b (without s xs ++ without s ys) (x ∷ (without s xs ++ without s ys)) ≡ cond b (without s xs) (x ∷ without s xs) ++ without s ys
      at true = refl
      at false = refl

  without-absent : (s : ℕ) (xs : List (ℕ × V)) → found s xs ≡ None → without s xs ≡ xs
  without-absent s [] e = refl
  without-absent s (x ∷ xs) e =
      let absent : ((x.0 == s) ≡ false) × (found s xs ≡ None) = cond_some_none (x.0 == s) x.1 (found s xs) e in
      (λ i. cond (absent.0 i) (without-absent s xs absent.1 i) (x ∷ without-absent s xs absent.1 i))

  pub removed_is : (s : ℕ) (es : List (SessionId × V)) → IsOnceEach (by_session es) → by_session (remove_entry (λ k. s == k.0) es) ≡ without s (by_session es)
  removed_is s [] h = refl
  removed_is s (e ∷ es) h =
      let parts : IsOnceEach (by_session es) × (found e.0.0 (by_session es) ≡ None) = parts_once (by_session es) (e.0.0, e.1) h in
      at (s == e.0.0) refl parts.1 (removed_is s es parts.0) ∙ sym (without-append s (by_session es) ((e.0.0, e.1) ∷ []))
    where
      no_more : (l : List (ℕ × V)) → l ++ [] ≡ l
      no_more [] = refl
      no_more (x ∷ l) = ap (λ r. x ∷ r) (no_more l)

      at : (b : Bool) → (s == e.0.0) ≡ b → found e.0.0 (by_session es) ≡ None → by_session (remove_entry (λ k. s == k.0) es) ≡ without s (by_session es)
          → by_session (remove_entry (λ k. s == k.0) (e ∷ es)) ≡ without s (by_session es) ++ without s ((e.0.0, e.1) ∷ [])
      at true p none rest =
          ap (λ c. by_session (cond c es (e ∷ remove_entry (λ k. s == k.0) es))) p
          ∙ sym (ap (λ c. without s (by_session es) ++ cond c [] ((e.0.0, e.1) ∷ [])) (eqb-swapped e.0.0 s ∙ p)
          ∙ no_more (without s (by_session es))
          ∙ without-absent s (by_session es) (ap (λ n. found n (by_session es)) (eqb-true s e.0.0 p) ∙ none))
      at false p none rest =
          ap (λ c. by_session (cond c es (e ∷ remove_entry (λ k. s == k.0) es))) p
          ∙ (λ i. rest i ++ cond (sym (eqb-swapped e.0.0 s ∙ p) i) [] ((e.0.0, e.1) ∷ []))

  found_none_without : (s t : ℕ) (xs : List (ℕ × V)) → found t xs ≡ None → found t (without s xs) ≡ None
  found_none_without s t [] e = refl
  found_none_without s t (x ∷ xs) e =
      let absent : ((x.0 == t) ≡ false) × (found t xs ≡ None) = cond_some_none (x.0 == t) x.1 (found t xs) e in
      at (x.0 == s) absent.0 (found_none_without s t xs absent.1)
    where
      at : (b : Bool) → (x.0 == t) ≡ false → found t (without s xs) ≡ None → found t (cond b (without s xs) (x ∷ without s xs)) ≡ None
      at true p rest = rest
      at false p rest = ap (λ c. cond c (Some x.1) (found t (without s xs))) p ∙ rest

  pub removed_once : (s : ℕ) (xs : List (ℕ × V)) → IsOnceEach xs → IsOnceEach (without s xs)
  removed_once s [] h = tt
  removed_once s (x ∷ xs) h = at (x.0 == s) (removed_once s xs h.1)
    where
      at : (b : Bool) → IsOnceEach (without s xs) → IsOnceEach (cond b (without s xs) (x ∷ without s xs))
      at true rest = rest
      at false rest = (found_none_without s x.0 xs h.0, rest)

  -- ---- a value comes

  pub newest_is : (es : List (SessionId × V)) (s : SessionId) (v : V) → by_session (es ++ (s, v) ∷ []) ≡ (s.0, v) ∷ by_session es
  newest_is [] s v = refl
  newest_is (e ∷ es) s v = ap (λ l. l ++ (e.0.0, e.1) ∷ []) (newest_is es s v)

  pub same_length : (es : List (SessionId × V)) → length es ≡ length (by_session es)
  same_length [] = refl
  same_length (e ∷ es) =
      let rest : length es ≡ length (by_session es) = same_length es in
      let last : List (ℕ × V) = (e.0.0, e.1) ∷ [] in
      let more : length (by_session es ++ last) ≡ length (by_session es) + 1 = length-append (by_session es) last in
      omega (arith, rest, more)
