-- Trees that agree on a mark: each tree with itself, both ways, and on from one tree to the next.
use Rattle.std.proofs.Common.{List, refl, sym, ◌∙◌}
use Rattle.cg_name.specs.Path.{Path}
use Rattle.cg_model.specs.Tree.{Tree}
use Rattle.cg_model.specs.Footprint.{Mark, X, S, N, Pid, Count}
use Rattle.cg_model_laws.specs.Covers.{SameAround, Agree, AgreeOn}
use Rattle.cg_model_laws.proofs.Lists.{all_map}

around_itself : (p : Path) (T : Tree) → SameAround p T T
around_itself p T = record { online = refl; groups = λ q e. refl; places = λ k. refl }

around_back : (p : Path) (T U : Tree) → SameAround p T U → SameAround p U T
around_back p T U a = record { online = sym a.online; groups = λ q e. sym (a.groups q e); places = λ k. sym (a.places k) }

around_trans : (p : Path) (T U V : Tree) → SameAround p T U → SameAround p U V → SameAround p T V
around_trans p T U V a b = record { online = a.online ∙ b.online; groups = λ q e. a.groups q e ∙ b.groups q e; places = λ k. a.places k ∙ b.places k }

pub agree_itself : (m : Mark) (T : Tree) → Agree m T T
agree_itself (X p) T = around_itself p T
agree_itself (S p) T = around_itself p T
agree_itself (N p) T = refl
agree_itself (Pid k) T = refl
agree_itself (Count a) T = refl

pub agree_back : (m : Mark) (T U : Tree) → Agree m T U → Agree m U T
agree_back (X p) T U a = around_back p T U a
agree_back (S p) T U a = around_back p T U a
agree_back (N p) T U a = sym a
agree_back (Pid k) T U a = sym a
agree_back (Count p) T U a = sym a

pub agree_trans : (m : Mark) (T U V : Tree) → Agree m T U → Agree m U V → Agree m T V
agree_trans (X p) T U V a b = around_trans p T U V a b
agree_trans (S p) T U V a b = around_trans p T U V a b
agree_trans (N p) T U V a b = a ∙ b
agree_trans (Pid k) T U V a b = a ∙ b
agree_trans (Count p) T U V a b = a ∙ b

pub agree_on_back : (f : List Mark) (T U : Tree) → AgreeOn f T U → AgreeOn f U T
agree_on_back f T U h = all_map (λ m a. agree_back m T U a) f h
