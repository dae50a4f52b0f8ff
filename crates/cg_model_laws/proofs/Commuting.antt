-- Changes under footprints that don't clash can be swapped.
use Rattle.std.proofs.Common.{◌≡◌, true, false, ◌&&◌, List, [], ◌∷◌, refl, ap, subst, ◌∙◌, Option}
use Rattle.std.proofs.lemmas.Bool.{both_ways, false_from_ne_true}
use Rattle.std.specs.List.{AllByRecursion}
use Rattle.cg_name.specs.Path.{Path, same_path, comparable}
use Rattle.cg_model.specs.Tree.{Tree}
use Rattle.cg_model.specs.Key.{same_field, Key, Group, Place, Part, Online, ValueOf, put, touch}
use Rattle.cg_model.specs.Change.{Change, done}
use Rattle.cg_model.specs.Footprint.{Mark, X, Pid, clash}
use Rattle.cg_model_laws.proofs.Lists.{all_map}
use Rattle.cg_model_laws.proofs.Paths.{same_path-is, prefix_itself, comparable_down}
use Rattle.cg_model_laws.proofs.Keys.{put_swap}
use Rattle.cg_model_laws.proofs.Marks.{Apart, AllApart, clash-swapped}
use Rattle.cg_model_laws.proofs.Frame.{marks_of}
use Rattle.cg_model_laws.proofs.Lawful.{Under, IsLawful}

-- the first mark of a key
abbrev main_mark : Key → Mark
main_mark (Group p) = X p
main_mark (Place k) = Pid k
main_mark (Part p f) = X p
main_mark Online = X []

main_covered : (f : List Mark) (T : Tree) (k : Key) (b l : Option (ValueOf k)) → AllByRecursion (Under f) (marks_of T k b l) → Under f (main_mark k)
main_covered f T (Group p) b l h = h.0
main_covered f T (Place k) b l h = h.0
main_covered f T (Part p g) b l h = h.0
main_covered f T Online b l h = h.0

same_comparable : (p q : Path) → comparable p q ≡ false → same_path p q ≡ false
same_comparable p q e = false_from_ne_true _ (λ is. both_ways _ e (subst (λ x. comparable p x ≡ true) (same_path-is p q is) (comparable_down p p (prefix_itself p))))

untouched : (k l : Key) → clash (main_mark k) (main_mark l) ≡ false → touch k l ≡ false
untouched (Group p) (Group q) e = same_comparable p q e
untouched (Group p) (Part q g) e = same_comparable p q e
untouched (Part p f) (Group q) e = same_comparable p q e
untouched (Part p f) (Part q g) e = ap (λ b. b && same_field f g) (same_comparable p q e)
untouched (Place k) (Place l) e = e
untouched Online Online e = e
untouched k l e = refl

-- each mark of g is apart from f: so what f covers is apart from g
covered_apart : (f : List Mark) (m : Mark) → Under f m → (g : List Mark) → AllApart f g → Apart g m
covered_apart f m u g h = all_map (λ n a. clash-swapped n m ∙ u n a) g h

untouched_by : (g : List Mark) (U : Tree) (cs : List Change) (k : Key) → IsLawful g U cs → Apart g (main_mark k) → AllByRecursion (λ d. touch k d.key ≡ false) cs
untouched_by g U [] k h a = tt
untouched_by g U (c ∷ cs) k h a =
    (untouched k c.key (clash-swapped (main_mark k) (main_mark c.key) ∙ main_covered g U c.key c.before c.left h.0.covered (main_mark k) a), untouched_by g (put c.key c.left U) cs k h.3 a)

done-put : (k : Key) (v : Option (ValueOf k)) (ds : List Change) (T : Tree) → AllByRecursion (λ d. touch k d.key ≡ false) ds → done ds (put k v T) ≡ put k v (done ds T)
done-put k v [] T h = refl
done-put k v (d ∷ ds) T h = ap (done ds) (put_swap k d.key v d.left T h.0) ∙ done-put k v ds (put d.key d.left T) h.1

-- T, U and V need not be related: the keys alone count
pub done-done : (f g : List Mark) (cs ds : List Change) (T U V : Tree) → IsLawful f T cs → IsLawful g U ds → AllApart f g → done ds (done cs V) ≡ done cs (done ds V)
done-done f g [] ds T U V h k a = refl
done-done f g (c ∷ cs) ds T U V h k a =
    done-done f g cs ds (put c.key c.left T) U (put c.key c.left V) h.3 k a
    ∙ ap (done cs) (done-put c.key c.left ds V (untouched_by g U ds c.key k (covered_apart f (main_mark c.key) (main_covered f T c.key c.before c.left h.0.covered) g a)))
