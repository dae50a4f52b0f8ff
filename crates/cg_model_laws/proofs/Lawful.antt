-- Lists of changes: what is asked of those of a command, and what follows for their inverse and for what they leave.
use Rattle.std.proofs.Common.{◌≡◌, true, false, List, [], ◌∷◌, refl, sym, ap, subst, ◌∙◌, true≢false, Option}
use Rattle.std.proofs.lemmas.Bool.{and_left, both_ways, false_from_ne_true}
use Rattle.std.specs.List.{AllByRecursion, list_any}
use Rattle.cg_name.specs.Path.{Path, same_path, is_prefix, comparable}
use Rattle.cg_model.specs.Tree.{Tree}
use Rattle.cg_model.specs.Key.{Key, Group, Place, Part, Online, ValueOf, value_at, put, touch}
use Rattle.cg_model.specs.Change.{Change, done, undone, Fits}
use Rattle.cg_model.specs.Footprint.{Mark, X, Pid, clash}
use Rattle.cg_model_laws.specs.Covers.{Agree, AgreeOn, IsCounted, may_change}
use Rattle.cg_model_laws.specs.Laws.{NoneTouch, KeysDontTouch}
use Rattle.cg_model_laws.proofs.Lists.{all_map}
use Rattle.cg_model_laws.proofs.Paths.{same_path-is, prefix_itself, comparable_down}
use Rattle.cg_model_laws.proofs.Keys.{put_back, put_apart}
use Rattle.cg_model_laws.proofs.Marks.{Apart, AllApart, clash-swapped}
use Rattle.cg_model_laws.proofs.Agreement.{agree_itself, agree_trans}
use Rattle.cg_model_laws.proofs.Frame.{marks_of, CountedAt, frame_put}

-- what clashes with none of f doesn't clash with m
abbrev pub Under : List Mark → Mark → Type 0
Under f m = (n : Mark) → Apart f n → clash m n ≡ false

abbrev pub IsNoGroup : Key → Type 0
IsNoGroup (Group p) = ⊥
IsNoGroup k = Unit {0}

-- the value before is the present one, the key takes the value left, a mark of f lets it change, and f covers the change
pub record IsLawfulPut (f : List Mark) (T : Tree) (k : Key) (b l : Option (ValueOf k)) : Type 0 where
  pub was : value_at T k ≡ b
  pub is : value_at (put k l T) k ≡ l
  pub marked : list_any (λ m. may_change m k) f ≡ true
  pub covered : AllByRecursion (Under f) (marks_of T k b l)

-- each change is lawful where it is made, and the later keys are no groups and don't touch it
abbrev pub IsLawful : List Mark → Tree → List Change → Type 0
IsLawful f T [] = Unit {0}
IsLawful f T (c ∷ cs) = IsLawfulPut f T c.key c.before c.left × AllByRecursion (λ d. IsNoGroup d.key) cs × AllByRecursion (λ d. touch c.key d.key ≡ false) cs × IsLawful f (put c.key c.left T) cs

-- ---- the inverse

pub undone-done : (f : List Mark) (cs : List Change) (T : Tree) → IsLawful f T cs → undone cs (done cs T) ≡ T
undone-done f [] T h = refl
undone-done f (c ∷ cs) T h =
    ap (put c.key c.before) (undone-done f cs (put c.key c.left T) h.3)
    ∙ ap (λ b. put c.key b (put c.key c.left T)) (sym h.0.was)
    ∙ put_back c.key c.left T

kept : (k : Key) (cs : List Change) (T : Tree) → AllByRecursion (λ d. touch k d.key ≡ false) cs → value_at (done cs T) k ≡ value_at T k
kept k [] T h = refl
kept k (c ∷ cs) T h = kept k cs (put c.key c.left T) h.1 ∙ put_apart k c.key c.left T h.0

pub Fits-done : (f : List Mark) (cs : List Change) (T : Tree) → IsLawful f T cs → Fits cs (done cs T)
Fits-done f [] T h = tt
Fits-done f (c ∷ cs) T h = (kept c.key cs (put c.key c.left T) h.2 ∙ h.0.is, Fits-done f cs (put c.key c.left T) h.3)

pub none_touch : (f : List Mark) (cs : List Change) (T : Tree) → IsLawful f T cs → NoneTouch cs
none_touch f [] T h = tt
none_touch f (c ∷ cs) T h = (h.2, none_touch f cs (put c.key c.left T) h.3)

-- ---- the keys

pub all_marked : (f : List Mark) (cs : List Change) (T : Tree) → IsLawful f T cs → AllByRecursion (λ c. list_any (λ m. may_change m c.key) f ≡ true) cs
all_marked f [] T h = tt
all_marked f (c ∷ cs) T h = (h.0.marked, all_marked f cs (put c.key c.left T) h.3)

-- the mark of a key: what clashes with none of f doesn't clash with it
abbrev mark_of : Key → Mark
mark_of (Group p) = X p
mark_of (Place k) = Pid k
mark_of (Part p f) = X p
mark_of Online = X []

under_mark : (f : List Mark) (T : Tree) (k : Key) (b l : Option (ValueOf k)) → IsLawfulPut f T k b l → Under f (mark_of k)
under_mark f T (Group p) b l h = h.covered.0
under_mark f T (Place k) b l h = h.covered.0
under_mark f T (Part p g) b l h = h.covered.0
under_mark f T Online b l h = h.covered.0

all_under : (f : List Mark) (cs : List Change) (T : Tree) → IsLawful f T cs → AllByRecursion (λ c. Under f (mark_of c.key)) cs
all_under f [] T h = tt
all_under f (c ∷ cs) T h = (under_mark f T c.key c.before c.left h.0, all_under f cs (put c.key c.left T) h.3)

paths_apart : (p q : Path) → comparable p q ≡ false → same_path p q ≡ false
paths_apart p q n = false_from_ne_true _ (λ e. both_ways _ n (comparable_down p q (subst (λ x. is_prefix p x ≡ true) (same_path-is p q e) (prefix_itself p))))

marks_apart : (k l : Key) → clash (mark_of k) (mark_of l) ≡ false → touch k l ≡ false
marks_apart (Group p) (Group q) n = paths_apart p q n
marks_apart (Group p) (Part q g) n = paths_apart p q n
marks_apart (Part p f) (Group q) n = paths_apart p q n
marks_apart (Part p f) (Part q g) n = and_left _ _ (paths_apart p q n)
marks_apart (Place k) (Place l) n = n
marks_apart Online Online n = absurd (true≢false n)
marks_apart k l n = refl

-- footprints that don't clash cover keys that don't touch
pub keys_apart_from : (f g : List Mark) (cs ds : List Change) (T U : Tree) → IsLawful f T cs → IsLawful g U ds → AllApart f g → KeysDontTouch cs ds
keys_apart_from f g cs ds T U h k a =
    all_map (λ c u. all_map (λ d v. marks_apart c.key d.key (clash-swapped (mark_of c.key) (mark_of d.key) ∙ v (mark_of c.key) (all_map (λ n w. clash-swapped n (mark_of c.key) ∙ u n w) g a))) ds (all_under g ds U k)) cs (all_under f cs T h)

-- ---- what marks cover that clash with none of f

counted_first : (k : Key) (T : Tree) (m : Mark) → IsCounted T m → CountedAt k T m
counted_first (Group p) T m c = c
counted_first (Place k) T m c = tt
counted_first (Part p f) T m c = tt
counted_first Online T m c = tt

counted_later : (k : Key) (T : Tree) (m : Mark) → IsNoGroup k → CountedAt k T m
counted_later (Group p) T m n = absurd n
counted_later (Place k) T m n = tt
counted_later (Part p f) T m n = tt
counted_later Online T m n = tt

one_put : (f : List Mark) (c : Change) (T : Tree) (m : Mark) → IsLawfulPut f T c.key c.before c.left → Apart f m → CountedAt c.key T m → Agree m T (put c.key c.left T)
one_put f c T m h a n = frame_put T c.key c.left m (subst (λ b. Apart (marks_of T c.key b c.left) m) (sym h.was) (all_map (λ x u. u m a) _ h.covered)) n

later : (f : List Mark) (cs : List Change) (T : Tree) (m : Mark) → IsLawful f T cs → AllByRecursion (λ d. IsNoGroup d.key) cs → Apart f m → Agree m T (done cs T)
later f [] T m h n a = agree_itself m T
later f (c ∷ cs) T m h n a =
    agree_trans m T (put c.key c.left T) _ (one_put f c T m h.0 a (counted_later c.key T m n.0)) (later f cs (put c.key c.left T) m h.3 n.1 a)

pub frame_mark : (f : List Mark) (cs : List Change) (T : Tree) (m : Mark) → IsLawful f T cs → Apart f m → IsCounted T m → Agree m T (done cs T)
frame_mark f [] T m h a n = agree_itself m T
frame_mark f (c ∷ cs) T m h a n =
    agree_trans m T (put c.key c.left T) _ (one_put f c T m h.0 a (counted_first c.key T m n)) (later f cs (put c.key c.left T) m h.3 h.1 a)

pub frame_marks : (f : List Mark) (cs : List Change) (T : Tree) (g : List Mark) → IsLawful f T cs → AllApart f g → AllByRecursion (IsCounted T) g → AgreeOn g T (done cs T)
frame_marks f cs T [] h a n = tt
frame_marks f cs T (m ∷ g) h a n = (frame_mark f cs T m h a.0 n.0, frame_marks f cs T g h a.1 n.1)
