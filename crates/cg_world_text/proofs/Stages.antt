-- What a stage and one line more come to.
use Rattle.std.proofs.Common.{◌≡◌, ℕ, ◌↔◌, ◌⊎◌, inl, inr, cond, Option, Some, None, List, [], ◌∷◌, ◌++◌, map, refl, sym, ap, subst}
use Rattle.std.specs.Option.{is_some}
use Rattle.cg_name.specs.Path.{Path}
use Rattle.cg_text.specs.declared.settings.Settings.{Settings}
use Rattle.cg_model.specs.Tree.{Tree, group, place_of}
use Rattle.cg_world_text.specs.declared.stage.Stage.{Stage}
use Rattle.cg_world_text.specs.declared.stage.Stage.TheVariants.{Begun, Versioned, Controlled, Groups, Processes, Ended}
use Rattle.cg_world_text.specs.declared.statement.Statement.{Statement}
use Rattle.cg_world_text.specs.declared.statement.Statement.TheVariants.{Version, Controllers, Online, Group, Process, End}
use Rattle.cg_world_text.specs.declared.version.Version as versions
use Rattle.cg_world_text.specs.World.{Lists, group_of, process_of, Arranges}
use Rattle.cg_world.specs.Making.{bare_tree, with_group, with_process}
use Rattle.cg_world_text.specs.Stage.{taken, version_at, Finishes}

pub free : {X : Type 0} (o : Option X) (n m : Stage) → cond (is_some o) None (Some n) ≡ Some m → (o ≡ None) × (n ≡ m)
free None n m e = (refl, cc)
free (Some x) n m e = absurd (cc e)

held : {X : Type 0} (o : Option X) (n : Stage) → cond (is_some o) None (Some n) ≡ None → o ≡ None → ⊥
held None n e f = cc e
held (Some x) n e f = cc f

abbrev tail : List (Path × Settings) → List (ℕ × Path) → List Statement
tail gs ps = map group_of gs ++ map process_of ps ++ End ∷ []

abbrev last : List (ℕ × Path) → List Statement
last ps = map process_of ps ++ End ∷ []

-- ---- what stands in front of a tail

process_first : (ps : List (ℕ × Path)) (k : ℕ) (p : Path) (ss : List Statement) → Process k p ∷ ss ≡ last ps → (qs : List (ℕ × Path)) × (ps ≡ (k, p) ∷ qs) × (ss ≡ last qs)
process_first [] k p ss e = absurd (cc e)
process_first (q ∷ qs) k p ss e =
    let f : q.0 ≡ k = cc e in
    let g : q.1 ≡ p = cc e in
    let h : ss ≡ last qs = cc e in
    (qs, λ i. (f i, g i) ∷ qs, h)

end_first : (ps : List (ℕ × Path)) (ss : List Statement) → End ∷ ss ≡ last ps → (ps ≡ []) × (ss ≡ [])
end_first [] ss e = (refl, cc)
end_first (q ∷ qs) ss e = absurd (cc e)

group_first : (gs : List (Path × Settings)) (ps : List (ℕ × Path)) (p : Path) (s : Settings) (ss : List Statement) → Group p s ∷ ss ≡ tail gs ps → (hs : List (Path × Settings)) × (gs ≡ (p, s) ∷ hs) × (ss ≡ tail hs ps)
group_first [] [] p s ss e = absurd (cc e)
group_first [] (q ∷ qs) p s ss e = absurd (cc e)
group_first (g ∷ gs) ps p s ss e =
    let f : g.0 ≡ p = cc e in
    let h : g.1 ≡ s = cc e in
    let t : ss ≡ tail gs ps = cc e in
    (gs, λ i. (f i, h i) ∷ gs, t)

no_group : (gs : List (Path × Settings)) (ps : List (ℕ × Path)) (k : ℕ) (p : Path) (ss : List Statement) → Process k p ∷ ss ≡ tail gs ps → gs ≡ []
no_group [] ps k p ss e = refl
no_group (g ∷ gs) ps k p ss e = absurd (cc e)

no_group_at_end : (gs : List (Path × Settings)) (ps : List (ℕ × Path)) (ss : List Statement) → End ∷ ss ≡ tail gs ps → gs ≡ []
no_group_at_end [] ps ss e = refl
no_group_at_end (g ∷ gs) ps ss e = absurd (cc e)

-- a tail begins with a group, a process or the end
abbrev IsOfTail : Statement → Type 0
IsOfTail (Version n) = ⊥
IsOfTail (Controllers cs) = ⊥
IsOfTail (Online o) = ⊥
IsOfTail _ = Unit {0}

of_tail : (gs : List (Path × Settings)) (ps : List (ℕ × Path)) (s : Statement) (ss : List Statement) → s ∷ ss ≡ tail gs ps → IsOfTail s
of_tail [] [] s ss e = let f : s ≡ End = cc e in subst IsOfTail (sym f) tt
of_tail [] (q ∷ qs) s ss e = let f : s ≡ process_of q = cc e in subst IsOfTail (sym f) tt
of_tail (g ∷ gs) ps s ss e = let f : s ≡ group_of g = cc e in subst IsOfTail (sym f) tt

-- the end of a tail has no group
abbrev IsOfLast : Statement → Type 0
IsOfLast (Process k p) = Unit {0}
IsOfLast End = Unit {0}
IsOfLast _ = ⊥

of_last : (ps : List (ℕ × Path)) (s : Statement) (ss : List Statement) → s ∷ ss ≡ last ps → IsOfLast s
of_last [] s ss e = let f : s ≡ End = cc e in subst IsOfLast (sym f) tt
of_last (q ∷ qs) s ss e = let f : s ≡ process_of q = cc e in subst IsOfLast (sym f) tt

nonempty : (gs : List (Path × Settings)) (ps : List (ℕ × Path)) → [] ≡ tail gs ps → ⊥
nonempty [] [] e = cc e
nonempty [] (q ∷ qs) e = cc e
nonempty (g ∷ gs) ps e = cc e

-- ---- one line more, stage by stage

from_online : (n : versions.Version) (cs : _) (o : _) (v : versions.Version) (ss : List Statement) (U : Tree) → Arranges v (Version n ∷ Controllers cs ∷ Online o ∷ ss) U ↔ Finishes (Groups n (bare_tree cs o)) v ss U
from_online n cs o v ss U = (
  (λ a. (a.groups, a.processes, cc a.order, cc a.order, cc a.order, a.listed_groups, a.listed_processes, cc a.order)),
  (λ f. record { groups = f.0; processes = f.1; order = whole f.0 f.1 f.2 f.3 f.4 f.7; listed_groups = f.5; listed_processes = f.6 }),
)
  where
    whole : (gs : List (Path × Settings)) (ps : List (ℕ × Path)) → ss ≡ tail gs ps → U.controllers ≡ cs → U.online ≡ o → v ≡ n → Version n ∷ Controllers cs ∷ Online o ∷ ss ≡ Version v ∷ Controllers U.controllers ∷ Online U.online ∷ tail gs ps
    whole gs ps e f g h = λ i. Version (sym h i) ∷ Controllers (sym f i) ∷ Online (sym g i) ∷ e i

module _ (n : versions.Version) (T : Tree) (v : versions.Version) (ss : List Statement) (U : Tree) where
  from_group : (p : Path) (s : Settings) → group T p ≡ None → Finishes (Groups n T) v (Group p s ∷ ss) U ↔ Finishes (Groups n (with_group T p s)) v ss U
  from_group p s none = (
    (λ f. let g = group_first f.0 f.1 p s ss f.2 in let l = subst (λ gs. Lists T.groups gs U.groups) g.1 f.5 in (g.0, f.1, g.2, f.3, f.4, l.1, f.6, f.7)),
    (λ f. ((p, s) ∷ f.0, f.1, ap (λ xs. Group p s ∷ xs) f.2, f.3, f.4, (none, f.5), f.6, f.7)),
  )

  held_group : (p : Path) (s : Settings) → (group T p ≡ None → ⊥) → Finishes (Groups n T) v (Group p s ∷ ss) U → ⊥
  held_group p s some f = let g = group_first f.0 f.1 p s ss f.2 in let l = subst (λ gs. Lists T.groups gs U.groups) g.1 f.5 in some l.0

  from_process : (k : ℕ) (p : Path) → place_of T k ≡ None → Finishes (Processes n T) v (Process k p ∷ ss) U ↔ Finishes (Processes n (with_process T k p)) v ss U
  from_process k p none = (
    (λ f. let g = process_first f.0 k p ss f.1 in let l = subst (λ ps. Lists T.places ps U.places) g.1 f.5 in (g.0, g.2, f.2, f.3, f.4, l.1, f.6)),
    (λ f. ((k, p) ∷ f.0, ap (λ xs. Process k p ∷ xs) f.1, f.2, f.3, f.4, (none, f.5), f.6)),
  )

  held_process : (k : ℕ) (p : Path) → (place_of T k ≡ None → ⊥) → Finishes (Processes n T) v (Process k p ∷ ss) U → ⊥
  held_process k p some f = let g = process_first f.0 k p ss f.1 in let l = subst (λ ps. Lists T.places ps U.places) g.1 f.5 in some l.0

  from_end : Finishes (Processes n T) v (End ∷ ss) U ↔ Finishes (Ended n T) v ss U
  from_end = (
    (λ f. let g = end_first f.0 ss f.1 in let places = subst (λ ps. Lists T.places ps U.places) g.0 f.5 in (g.1, (λ i. record { controllers = f.2 i; online = f.3 i; groups = f.4 i; places = places i }), f.6)),
    (λ f. ([], ap (λ xs. End ∷ xs) f.0, ap (λ V. V.controllers) f.1, ap (λ V. V.online) f.1, ap (λ V. V.groups) f.1, ap (λ V. V.places) f.1, f.2)),
  )

  -- behind the last group, a process or the end
  groups_over : ((gs : _) (ps : _) → ss ≡ tail gs ps → gs ≡ []) → Finishes (Groups n T) v ss U ↔ Finishes (Processes n T) v ss U
  groups_over none = (
    (λ f.
        let g : f.0 ≡ [] = none f.0 f.1 f.2 in
        let e = subst (λ gs. ss ≡ tail gs f.1) g f.2 in
        let l = subst (λ gs. Lists T.groups gs U.groups) g f.5 in
        (f.1, e, f.3, f.4, l, f.6, f.7)),
    (λ f. ([], f.0, f.1, f.2, f.3, f.4, f.5, f.6)),
  )

abbrev pub both : {A B C : Type 0} → A ↔ B → B ↔ C → A ↔ C
both f g = ((λ a. g.0 (f.0 a)), (λ c. f.1 (g.1 c)))

abbrev itself : {A : Type 0} → A ↔ A
itself = ((λ a. a), (λ a. a))

abbrev Goes : Stage → Statement → Stage → Type 0
Goes st s next = (v : versions.Version) (ss : List Statement) (U : Tree) → Finishes st v (s ∷ ss) U ↔ Finishes next v ss U

abbrev Stops : Stage → Statement → Type 0
Stops st s = (v : versions.Version) (ss : List Statement) (U : Tree) → Finishes st v (s ∷ ss) U → ⊥

at : (st : Stage) (s : Statement) (n next : Stage) → Some n ≡ Some next → Goes st s n → Goes st s next
at st s n next e h = let f : n ≡ next = cc e in subst (Goes st s) f h

pub goes : (st : Stage) (s : Statement) (next : Stage) → taken st s ≡ Some next → Goes st s next
goes Begun (Version m) next e = at Begun (Version m) (Versioned m) next e (λ v ss U. itself)
goes Begun (Controllers ds) next e = absurd (cc e)
goes Begun (Online o) next e = absurd (cc e)
goes Begun (Group p s) next e = absurd (cc e)
goes Begun (Process k p) next e = absurd (cc e)
goes Begun End next e = absurd (cc e)
goes (Versioned n) (Version m) next e = absurd (cc e)
goes (Versioned n) (Controllers ds) next e = at (Versioned n) (Controllers ds) (Controlled n ds) next e (λ v ss U. itself)
goes (Versioned n) (Online o) next e = absurd (cc e)
goes (Versioned n) (Group p s) next e = absurd (cc e)
goes (Versioned n) (Process k p) next e = absurd (cc e)
goes (Versioned n) End next e = absurd (cc e)
goes (Controlled n cs) (Version m) next e = absurd (cc e)
goes (Controlled n cs) (Controllers ds) next e = absurd (cc e)
goes (Controlled n cs) (Online o) next e = at (Controlled n cs) (Online o) (Groups n (bare_tree cs o)) next e (from_online n cs o)
goes (Controlled n cs) (Group p s) next e = absurd (cc e)
goes (Controlled n cs) (Process k p) next e = absurd (cc e)
goes (Controlled n cs) End next e = absurd (cc e)
goes (Groups n T) (Version m) next e = absurd (cc e)
goes (Groups n T) (Controllers ds) next e = absurd (cc e)
goes (Groups n T) (Online o) next e = absurd (cc e)
goes (Groups n T) (Group p s) next e = let f = free (group T p) _ next e in subst (Goes (Groups n T) (Group p s)) f.1 (λ v ss U. from_group n T v ss U p s f.0)
goes (Groups n T) (Process k p) next e =
    let f = free (place_of T k) _ next e in
    subst (Goes (Groups n T) (Process k p)) f.1 (λ v ss U. both (groups_over n T v (Process k p ∷ ss) U (λ gs ps g. no_group gs ps k p ss g)) (from_process n T v ss U k p f.0))
goes (Groups n T) End next e = at (Groups n T) End (Ended n T) next e (λ v ss U. both (groups_over n T v (End ∷ ss) U (λ gs ps g. no_group_at_end gs ps ss g)) (from_end n T v ss U))
goes (Processes n T) (Version m) next e = absurd (cc e)
goes (Processes n T) (Controllers ds) next e = absurd (cc e)
goes (Processes n T) (Online o) next e = absurd (cc e)
goes (Processes n T) (Group p s) next e = absurd (cc e)
goes (Processes n T) (Process k p) next e = let f = free (place_of T k) _ next e in subst (Goes (Processes n T) (Process k p)) f.1 (λ v ss U. from_process n T v ss U k p f.0)
goes (Processes n T) End next e = at (Processes n T) End (Ended n T) next e (from_end n T)
goes (Ended n T) s next e = absurd (cc e)

pub stops : (st : Stage) (s : Statement) → taken st s ≡ None → Stops st s
stops Begun (Version m) e = absurd (cc e)
stops Begun (Controllers ds) e = λ v ss U a. cc a.order
stops Begun (Online o) e = λ v ss U a. cc a.order
stops Begun (Group p s) e = λ v ss U a. cc a.order
stops Begun (Process k p) e = λ v ss U a. cc a.order
stops Begun End e = λ v ss U a. cc a.order
stops (Versioned n) (Version m) e = λ v ss U a. cc a.order
stops (Versioned n) (Controllers ds) e = absurd (cc e)
stops (Versioned n) (Online o) e = λ v ss U a. cc a.order
stops (Versioned n) (Group p s) e = λ v ss U a. cc a.order
stops (Versioned n) (Process k p) e = λ v ss U a. cc a.order
stops (Versioned n) End e = λ v ss U a. cc a.order
stops (Controlled n cs) (Version m) e = λ v ss U a. cc a.order
stops (Controlled n cs) (Controllers ds) e = λ v ss U a. cc a.order
stops (Controlled n cs) (Online o) e = absurd (cc e)
stops (Controlled n cs) (Group p s) e = λ v ss U a. cc a.order
stops (Controlled n cs) (Process k p) e = λ v ss U a. cc a.order
stops (Controlled n cs) End e = λ v ss U a. cc a.order
stops (Groups n T) (Version m) e = λ v ss U f. of_tail f.0 f.1 (Version m) ss f.2
stops (Groups n T) (Controllers ds) e = λ v ss U f. of_tail f.0 f.1 (Controllers ds) ss f.2
stops (Groups n T) (Online o) e = λ v ss U f. of_tail f.0 f.1 (Online o) ss f.2
stops (Groups n T) (Group p s) e = λ v ss U f. held_group n T v ss U p s (held (group T p) _ e) f
stops (Groups n T) (Process k p) e = λ v ss U f. held_process n T v ss U k p (held (place_of T k) _ e) ((groups_over n T v (Process k p ∷ ss) U (λ gs ps g. no_group gs ps k p ss g)).0 f)
stops (Groups n T) End e = absurd (cc e)
stops (Processes n T) (Version m) e = λ v ss U f. of_last f.0 (Version m) ss f.1
stops (Processes n T) (Controllers ds) e = λ v ss U f. of_last f.0 (Controllers ds) ss f.1
stops (Processes n T) (Online o) e = λ v ss U f. of_last f.0 (Online o) ss f.1
stops (Processes n T) (Group p s) e = λ v ss U f. of_last f.0 (Group p s) ss f.1
stops (Processes n T) (Process k p) e = λ v ss U f. held_process n T v ss U k p (held (place_of T k) _ e) f
stops (Processes n T) End e = absurd (cc e)
stops (Ended n T) s e = λ v ss U f. cc f.0

-- where no line is left, all was read
pub ended : (st : Stage) (v : versions.Version) (T : Tree) → Finishes st v [] T → st ≡ Ended v T
ended Begun v T a = absurd (cc a.order)
ended (Versioned n) v T a = absurd (cc a.order)
ended (Controlled n cs) v T a = absurd (cc a.order)
ended (Groups n U) v T f = absurd (nonempty f.0 f.1 f.2)
ended (Processes n U) v T f = absurd (nonempty [] f.0 f.1)
ended (Ended n U) v T f = λ i. Ended (sym f.2 i) (sym f.1 i)

-- the next line is read by the version of the text, but for the line that names it
pub read_by : (st : Stage) (v : versions.Version) (s : Statement) (ss : List Statement) (U : Tree) → Finishes st v (s ∷ ss) U → (version_at st ≡ v) ⊎ (s ≡ Version v)
read_by Begun v s ss U a = inr (cc a.order)
read_by (Versioned n) v s ss U a = inl (cc a.order)
read_by (Controlled n cs) v s ss U a = inl (cc a.order)
read_by (Groups n T) v s ss U f = inl (sym f.7)
read_by (Processes n T) v s ss U f = inl (sym f.6)
read_by (Ended n T) v s ss U f = inl (sym f.2)
