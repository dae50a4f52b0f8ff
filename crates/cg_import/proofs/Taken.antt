-- Groups and processes, put into a tree one by one.
use Rattle.std.proofs.Common.{◌≡◌, ◌⊎◌, ◌↔◌, ℕ, ◌-◌, Bool, true, false, IsTrue, List, [], ◌∷◌, take, length, Option, Some, None, option_map, is_some, not, refl, sym, ap, subst, ◌∙◌, inl, inr, arith}
use Rattle.std.specs.Prelude.{IfSome, IsSome, option_and_then}
use Rattle.std.proofs.lemmas.Option.{none-some}
use Rattle.cg_import.proofs.Known.{also}
use Rattle.cg_maps.specs.FiniteMap.{get, set_at, empty}
use Rattle.cg_maps.proofs.Maps.{cases, get_here, get_apart, get-empty}
use Rattle.cg_model.specs.Derived.{available}
use Rattle.cg_model.specs.Sound.{admits}
use Rattle.cg_model.specs.Tree.{Tree, group, place_of, last_of}
use Rattle.cg_name.specs.FileName.{file_word}
use Rattle.cg_name.specs.Name.{Name}
use Rattle.cg_name.specs.Path.{Path, along, is_root}
use Rattle.cg_name.specs.Order.{path_cmp_total, path_cmp_exact}
use Rattle.cg_name.specs.declared.controller.Controller.{Controller}
use Rattle.cg_name.specs.declared.file_name.FileName.TheVariants as files
use Rattle.cg_text.specs.Controllers.{has, no_controllers}
use Rattle.cg_text.specs.declared.controllers.Controllers.{Controllers}
use Rattle.cg_text.specs.declared.settings.Settings.{Settings}
use Rattle.cg_import.specs.Files.{Known, Missing, folder_at, file_in, IsSaid}
use Rattle.cg_import.specs.Mounted.{AreSettingsIn, IsWhole, OfProcesses, IsGroupIn, IsMountedAt}
use Rattle.cg_import.specs.Taking.{passed_on, PutsProcesses}
use Rattle.cg_import.specs.Values.{NamesController, SpellsNamed, ListsPid}

last_along : (f : Path → Option Settings) (n : Name) (p : Path) → last_of (along f (n ∷ p)) ≡ f (take (length p) (n ∷ p))
last_along f n [] = refl
last_along f n (m ∷ p) = last_along (λ q. f (n ∷ q)) m p

-- what is passed on to a group that isn't the root is what the group has that its path ends below
pub passed_below : (T : Tree) (p : Path) → is_root p ≡ false → passed_on T p ≡ option_map (λ (u : Settings). u.control) (group T (take (length p - 1) p))
passed_below T [] e = absurd (cc e)
passed_below T (n ∷ p) e = ap (option_map (λ (u : Settings). u.control)) (last_along (group T) n p ∙ ap (λ k. group T (take k (n ∷ p))) (omega arith))

passed_here : (T : Tree) (p : Path) (s : Settings) → group T p ≡ Some s → available T p ≡ passed_on T p
passed_here T p s e = ap (option_and_then (λ (x : Settings). passed_on T p)) e

-- what a tree tells of a path's parent is what is passed on
pub passed_to : (T : Tree) (p : Path) (o : Option Path) (q : Path) (r : Option Settings) → o ≡ Some q → is_some o ≡ not (is_root p) → IfSome o (λ x. x ≡ take (length p - 1) p) → group T q ≡ r → option_map (λ (u : Settings). u.control) r ≡ passed_on T p
passed_to T p o q r e some parent is =
    let below : is_root p ≡ false = turned (is_root p) (sym some ∙ ap is_some e) in
    let at : q ≡ take (length p - 1) p = subst (λ x. IfSome x (λ y. y ≡ take (length p - 1) p)) e parent in
    sym (passed_below T p below ∙ ap (option_map (λ (u : Settings). u.control)) (ap (group T) (sym at) ∙ is))
  where
    turned : (b : Bool) → not b ≡ true → b ≡ false
    turned true h = absurd (cc h)
    turned false h = refl

-- ---- what is passed on stays so in a tree with more groups

mapped : (o r : Option Settings) (a : Controllers) → ((u : Settings) → o ≡ Some u → r ≡ Some u) → option_map (λ (u : Settings). u.control) o ≡ Some a → option_map (λ (u : Settings). u.control) r ≡ Some a
mapped None r a h e = absurd (none-some _ e)
mapped (Some u) r a h e = ap (option_map (λ (x : Settings). x.control)) (h u refl) ∙ e

passed_kept : (T U : Tree) → U.controllers ≡ T.controllers → ((q : Path) (u : Settings) → group T q ≡ Some u → group U q ≡ Some u) → (p : Path) (a : Controllers) → passed_on T p ≡ Some a → passed_on U p ≡ Some a
passed_kept T U e h [] a is = ap Some e ∙ is
passed_kept T U e h (n ∷ p) a is =
    passed_below U (n ∷ p) refl ∙ mapped (group T (take (length (n ∷ p) - 1) (n ∷ p))) _ a (h _) (sym (passed_below T (n ∷ p) refl) ∙ is)

available_kept : (T U : Tree) → U.controllers ≡ T.controllers → ((q : Path) (u : Settings) → group T q ≡ Some u → group U q ≡ Some u) → (p : Path) (s : Settings) (a : Controllers) → group T p ≡ Some s → available T p ≡ Some a → available U p ≡ Some a
available_kept T U e h p s a is av = passed_here U p s (h p s is) ∙ passed_kept T U e h p a (sym (passed_here T p s is) ∙ av)

module _ (file : Known) (missing : Missing) (root : List ℕ) where
  -- a tree of nothing
  pub nothing_taken : (T : Tree) → T.groups ≡ empty → T.places ≡ empty → (missing (file_in root (file_word files.Controllers)) ≡ true → ⊥) → IfSome (file (file_in root (file_word files.Controllers))) (λ text. (c : Controller) → IsTrue (has T.controllers c) ↔ NamesController text c) → IsMountedAt file missing root T
  nothing_taken T g k there cs = record {
    there = there;
    controllers = cs;
    groups = λ p s is. absurd (none-some _ (sym (get-empty _ p) ∙ ap (λ m. get m p) (sym g) ∙ is));
    processes = λ n p is. absurd (none-some _ (sym (get-empty _ n) ∙ ap (λ m. get m n) (sym k) ∙ is));
  }

  pub none_left_out : (T : Tree) → T.groups ≡ empty → IsWhole file missing root T
  none_left_out T g = record {
    control = λ p s is. absurd (none-some _ (sym (get-empty _ p) ∙ ap (λ m. get m p) (sym g) ∙ is));
    processes = λ p s is. absurd (none-some _ (sym (get-empty _ p) ∙ ap (λ m. get m p) (sym g) ∙ is));
  }

  -- more processes of a group's file
  module _ (T U : Tree) (path : Path) (text : List ℕ) (h : IsMountedAt file missing root T) (puts : PutsProcesses path (ListsPid text) T U) (known : OfProcesses file (folder_at root path) (λ bytes. text ≡ bytes)) where
    was : (p : Path) (s : Settings) → group U p ≡ Some s → group T p ≡ Some s
    was p s is = ap (λ m. get m p) (sym puts.groups) ∙ is

    still : (p : Path) (s : Settings) → group T p ≡ Some s → group U p ≡ Some s
    still p s is = ap (λ m. get m p) puts.groups ∙ is

    same_group : (p : Path) (s : Settings) → group U p ≡ Some s → IsGroupIn file missing (folder_at root p) T p s → IsGroupIn file missing (folder_at root p) U p s
    same_group p s is g = record {
      settings = (g.settings.0, available_kept T U puts.controllers still p s g.settings.0 (was p s is) g.settings.1, g.settings.2);
      there = g.there;
      processes = λ may. also (file (file_in (folder_at root p) (file_word files.Procs))) (λ bytes. (k : ℕ) → ListsPid bytes k → IsSome (place_of T k)) (λ bytes. (k : ℕ) → ListsPid bytes k → IsSome (place_of U k)) (g.processes may) (λ bytes all k lists. puts.kept k (all k lists));
    }

    here : (k : ℕ) (p : Path) → (place_of T k ≡ Some p) ⊎ ((p ≡ path) × ListsPid text k) → OfProcesses file (folder_at root p) (λ bytes. ListsPid bytes k)
    here k p (inl is) = h.processes k p is
    here k p (inr new) =
        subst (λ q. OfProcesses file (folder_at root q) (λ bytes. ListsPid bytes k)) (sym new.0)
        (also (file (file_in (folder_at root path) (file_word files.Procs))) (λ bytes. text ≡ bytes) (λ bytes. ListsPid bytes k) known (λ bytes e. subst (λ t. ListsPid t k) e new.1))

    pub processes_taken : IsMountedAt file missing root U
    processes_taken = record {
      there = h.there;
      controllers = also (file (file_in root (file_word files.Controllers))) (λ bytes. (c : Controller) → IsTrue (has T.controllers c) ↔ NamesController bytes c) (λ bytes. (c : Controller) → IsTrue (has U.controllers c) ↔ NamesController bytes c) h.controllers (λ bytes all c. subst (λ cs. IsTrue (has cs c) ↔ NamesController bytes c) (sym puts.controllers) (all c));
      groups = λ p s is. same_group p s is (h.groups p s (was p s is));
      processes = λ k p is. here k p (puts.among k p is);
    }

  -- one group more
  module _ (T : Tree) (path : Path) (s : Settings) (above : Controllers) (h : IsMountedAt file missing root T) (absent : group T path ≡ None) (passed : passed_on T path ≡ Some above)
      (read : AreSettingsIn file missing (folder_at root path) above s) (there : missing (file_in (folder_at root path) (file_word files.Procs)) ≡ true → ⊥)
      (all : admits path s ≡ true → OfProcesses file (folder_at root path) (λ text. (k : ℕ) → ListsPid text k → IsSome (place_of T k))) where
    abbrev bigger : Tree
    bigger = record T { groups = set_at T.groups path (Some s) }

    kept : (q : Path) (u : Settings) → group T q ≡ Some u → group bigger q ≡ Some u
    kept q u is = elim (cases path_cmp_total path_cmp_exact q path) [
      | inl e ↦ absurd (none-some _ (sym absent ∙ ap (get T.groups) (sym e) ∙ is))
      | inr ne ↦ get_apart path_cmp_total path_cmp_exact T.groups path (Some s) q ne ∙ is
    ]

    own : group bigger path ≡ Some s
    own = get_here path_cmp_total path_cmp_exact T.groups path (Some s)

    new_group : IsGroupIn file missing (folder_at root path) bigger path s
    new_group = record {
      settings = (above, passed_here bigger path s own ∙ passed_kept T bigger refl kept path above passed, read);
      there = there;
      processes = all;
    }

    old_group : (q : Path) (u : Settings) → group T q ≡ Some u → IsGroupIn file missing (folder_at root q) T q u → IsGroupIn file missing (folder_at root q) bigger q u
    old_group q u is g = record {
      settings = (g.settings.0, available_kept T bigger refl kept q u g.settings.0 is g.settings.1, g.settings.2);
      there = g.there;
      processes = g.processes;
    }

    each : (q : Path) (u : Settings) → group bigger q ≡ Some u → IsGroupIn file missing (folder_at root q) bigger q u
    each q u is = elim (cases path_cmp_total path_cmp_exact q path) [
      | inl e ↦
          let same : Some s ≡ Some u = sym own ∙ ap (get bigger.groups) (sym e) ∙ is in
          let value : s ≡ u = cc same in
          subst (λ x. IsGroupIn file missing (folder_at root q) bigger q x) value (subst (λ r. IsGroupIn file missing (folder_at root r) bigger r s) (sym e) new_group)
      | inr ne ↦
          let before : group T q ≡ Some u = sym (get_apart path_cmp_total path_cmp_exact T.groups path (Some s) q ne) ∙ is in
          old_group q u before (h.groups q u before)
    ]

    pub group_taken : IsMountedAt file missing root bigger
    group_taken = record { there = h.there; controllers = h.controllers; groups = each; processes = h.processes }

  no_some : (o : Option Settings) → is_some o ≡ false → o ≡ None
  no_some None e = refl
  no_some (Some s) e = absurd (cc e)

  -- a group with its processes
  pub whole_group : (T U V : Tree) (path : Path) (text : List ℕ) (s : Settings) (above : Controllers) → IsMountedAt file missing root T → PutsProcesses path (ListsPid text) T U → V ≡ record U { groups = set_at U.groups path (Some s) }
      → is_some (group T path) ≡ false → passed_on T path ≡ Some above → AreSettingsIn file missing (folder_at root path) above s
      → OfProcesses file (folder_at root path) (λ bytes. text ≡ bytes) → (missing (file_in (folder_at root path) (file_word files.Procs)) ≡ true → ⊥)
      → (admits path s ≡ true → (k : ℕ) → ListsPid text k → IsSome (place_of U k)) → IsMountedAt file missing root V
  whole_group T U V path text s above h puts is none passed read known there all =
      let absent : group U path ≡ None = ap (λ m. get m path) puts.groups ∙ no_some (group T path) none in
      let from_above : passed_on U path ≡ Some above = passed_kept T U puts.controllers (λ q u e. ap (λ m. get m q) puts.groups ∙ e) path above passed in
      subst (IsMountedAt file missing root) (sym is)
      (group_taken U path s above (processes_taken T U path text h puts known) absent from_above read there
      (λ may. also (file (file_in (folder_at root path) (file_word files.Procs))) (λ bytes. text ≡ bytes) (λ bytes. (k : ℕ) → ListsPid bytes k → IsSome (place_of U k)) known (λ bytes e k lists. all may k (subst (λ t. ListsPid t k) (sym e) lists))))

  abbrev Listed : Tree → Path → Type 0
  Listed T q = OfProcesses file (folder_at root q) (λ bytes. (k : ℕ) → ListsPid bytes k → IsSome (place_of T k))

  abbrev Passes : Path → Settings → Type 0
  Passes q u = IsSaid file missing (file_in (folder_at root q) (file_word files.SubtreeControl)) SpellsNamed no_controllers u.control

  -- all of one group more
  pub all_taken : (T U V : Tree) (path : Path) (text : List ℕ) (s : Settings) → IsWhole file missing root T → PutsProcesses path (ListsPid text) T U → V ≡ record U { groups = set_at U.groups path (Some s) }
      → OfProcesses file (folder_at root path) (λ text'. text ≡ text') → Passes path s → ((k : ℕ) → ListsPid text k → IsSome (place_of U k)) → IsWhole file missing root V
  all_taken T U V path text s h puts is known passes all = subst (IsWhole file missing root) (sym is) (record { control = each_passes; processes = each_all })
    where
      own_all : Listed U path
      own_all = also (file (file_in (folder_at root path) (file_word files.Procs))) (λ bytes. text ≡ bytes) (λ bytes. (k : ℕ) → ListsPid bytes k → IsSome (place_of U k)) known (λ bytes e k lists. all k (subst (λ t. ListsPid t k) (sym e) lists))

      each_passes : (q : Path) (u : Settings) → group (record U { groups = set_at U.groups path (Some s) }) q ≡ Some u → Passes q u
      each_passes q u e = elim (cases path_cmp_total path_cmp_exact q path) [
        | inl same ↦
            let here : Some s ≡ Some u = sym (get_here path_cmp_total path_cmp_exact U.groups path (Some s)) ∙ ap (get (set_at U.groups path (Some s))) (sym same) ∙ e in
            let value : s ≡ u = cc here in
            subst (λ x. Passes q x) value (subst (λ r. Passes r s) (sym same) passes)
        | inr ne ↦ h.control q u (ap (λ m. get m q) (sym puts.groups) ∙ sym (get_apart path_cmp_total path_cmp_exact U.groups path (Some s) q ne) ∙ e)
      ]

      each_all : (q : Path) (u : Settings) → group (record U { groups = set_at U.groups path (Some s) }) q ≡ Some u → Listed U q
      each_all q u e = elim (cases path_cmp_total path_cmp_exact q path) [
        | inl same ↦ subst (Listed U) (sym same) own_all
        | inr ne ↦
            let before : group T q ≡ Some u = ap (λ m. get m q) (sym puts.groups) ∙ sym (get_apart path_cmp_total path_cmp_exact U.groups path (Some s) q ne) ∙ e in
            also (file (file_in (folder_at root q) (file_word files.Procs))) (λ bytes. (k : ℕ) → ListsPid bytes k → IsSome (place_of T k)) (λ bytes. (k : ℕ) → ListsPid bytes k → IsSome (place_of U k)) (h.processes q u before) (λ bytes listed k lists. puts.kept k (listed k lists))
      ]
