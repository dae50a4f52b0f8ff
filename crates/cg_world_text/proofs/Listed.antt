-- A map lists its own entries, and controllers are added one after another.
use Rattle.std.proofs.Common.{◌≡◌, ◌≢◌, Bool, true, false, cond, List, [], ◌∷◌, map, None, Some, refl, sym, subst, ◌∙◌}
use Rattle.std.specs.declared.cmp.Ordering.{Ordering}
use Rattle.std.specs.Cmp.{IsTotalOrder}
use Rattle.std.specs.List.{AllByRecursion}
use Rattle.std.specs.FinMap.{IsAntisymmetric}
use Rattle.cg_maps.specs.FiniteMap.{FiniteMap, get, set_at, entries, empty}
use Rattle.cg_maps.proofs.Maps.{KeysDiffer, keys_differ, get-empty, get_apart}
use Rattle.cg_name.specs.Controller.{controller_word}
use Rattle.cg_name.specs.declared.controller.Controller.{Controller}
use Rattle.cg_name.specs.declared.controller.Controller.TheVariants.{Cpuset, Cpu, Io, Memory, Hugetlb, Pids, Rdma, Misc}
use Rattle.cg_text.specs.Controllers.{members, no_controllers}
use Rattle.cg_text.specs.declared.controllers.Controllers as sets
use Rattle.cg_world_text.specs.Statement.{AddsControllers}
use Rattle.cg_world_text.specs.World.{Lists}
use Rattle.cg_world.proofs.Puts.{puts, puts-entries}

pub all_both : {A : Type 0} (P Q S : A → Type 0) → ((x : A) → P x → Q x → S x) → (xs : List A) → AllByRecursion P xs → AllByRecursion Q xs → AllByRecursion S xs
all_both P Q S f [] h k = tt
all_both P Q S f (x ∷ xs) h k = (f x h.0 k.0, all_both P Q S f xs h.1 k.1)

module _ {K X : Type 0} {R : K → K → Ordering} (o : IsTotalOrder R) (same : IsAntisymmetric R) where
  lists_puts : (m : FiniteMap R X) (es : List (K × X)) → KeysDiffer o es → AllByRecursion (λ e. get m e.0 ≡ None) es → Lists m es (puts m es)
  lists_puts m [] d h = refl
  lists_puts m (e ∷ es) d h = (
    h.0,
    lists_puts (set_at m e.0 (Some e.1)) es d.1
        (all_both (λ f. e.0 ≢ f.0) (λ f. get m f.0 ≡ None) (λ f. get (set_at m e.0 (Some e.1)) f.0 ≡ None) (λ f ne is. get_apart o same m e.0 (Some e.1) f.0 (λ p. ne (sym p)) ∙ is) es d.0 h.1),
  )

  all_free : (es : List (K × X)) → AllByRecursion (λ e. get (empty {X = X} {R = R}) e.0 ≡ None) es
  all_free [] = tt
  all_free (e ∷ es) = (get-empty R e.0, all_free es)

  pub lists_entries : (m : FiniteMap R X) → Lists empty (entries m) m
  lists_entries m = subst (Lists empty (entries m)) (puts-entries o same m) (lists_puts empty (entries m) (keys_differ o m) (all_free (entries m)))

-- ---- the controllers of a set, one after another

abbrev of_eight : Bool → Bool → Bool → Bool → Bool → Bool → Bool → Bool → sets.Controllers
of_eight a b c d e f g h = record { cpuset = a; cpu = b; io = c; memory = d; hugetlb = e; pids = f; rdma = g; misc = h }

abbrev held : Bool → Controller → List Controller → List Controller
held b c cs = cond b (c ∷ cs) cs

abbrev Adds : sets.Controllers → List Controller → sets.Controllers → Type 0
Adds s cs all = AddsControllers s (map controller_word cs) all

adds8 : (a b c d e f g h : Bool) → Adds (of_eight a b c d e f g false) (held h Misc []) (of_eight a b c d e f g h)
adds8 a b c d e f g true = (Misc, refl, refl, refl)
adds8 a b c d e f g false = refl

adds7 : (a b c d e f g h : Bool) → Adds (of_eight a b c d e f false false) (held g Rdma (held h Misc [])) (of_eight a b c d e f g h)
adds7 a b c d e f true h = (Rdma, refl, refl, adds8 a b c d e f true h)
adds7 a b c d e f false h = adds8 a b c d e f false h

adds6 : (a b c d e f g h : Bool) → Adds (of_eight a b c d e false false false) (held f Pids (held g Rdma (held h Misc []))) (of_eight a b c d e f g h)
adds6 a b c d e true g h = (Pids, refl, refl, adds7 a b c d e true g h)
adds6 a b c d e false g h = adds7 a b c d e false g h

adds5 : (a b c d e f g h : Bool) → Adds (of_eight a b c d false false false false) (held e Hugetlb (held f Pids (held g Rdma (held h Misc [])))) (of_eight a b c d e f g h)
adds5 a b c d true f g h = (Hugetlb, refl, refl, adds6 a b c d true f g h)
adds5 a b c d false f g h = adds6 a b c d false f g h

adds4 : (a b c d e f g h : Bool) → Adds (of_eight a b c false false false false false) (held d Memory (held e Hugetlb (held f Pids (held g Rdma (held h Misc []))))) (of_eight a b c d e f g h)
adds4 a b c true e f g h = (Memory, refl, refl, adds5 a b c true e f g h)
adds4 a b c false e f g h = adds5 a b c false e f g h

adds3 : (a b c d e f g h : Bool) → Adds (of_eight a b false false false false false false) (held c Io (held d Memory (held e Hugetlb (held f Pids (held g Rdma (held h Misc [])))))) (of_eight a b c d e f g h)
adds3 a b true d e f g h = (Io, refl, refl, adds4 a b true d e f g h)
adds3 a b false d e f g h = adds4 a b false d e f g h

adds2 : (a b c d e f g h : Bool) → Adds (of_eight a false false false false false false false) (held b Cpu (held c Io (held d Memory (held e Hugetlb (held f Pids (held g Rdma (held h Misc []))))))) (of_eight a b c d e f g h)
adds2 a true c d e f g h = (Cpu, refl, refl, adds3 a true c d e f g h)
adds2 a false c d e f g h = adds3 a false c d e f g h

adds1 : (a b c d e f g h : Bool) → Adds no_controllers (held a Cpuset (held b Cpu (held c Io (held d Memory (held e Hugetlb (held f Pids (held g Rdma (held h Misc [])))))))) (of_eight a b c d e f g h)
adds1 true b c d e f g h = (Cpuset, refl, refl, adds2 true b c d e f g h)
adds1 false b c d e f g h = adds2 false b c d e f g h

-- a set is its controllers, added to none
pub adds_members : (s : sets.Controllers) → AddsControllers no_controllers (map controller_word (members s)) s
adds_members s = adds1 s.cpuset s.cpu s.io s.memory s.hugetlb s.pids s.rdma s.misc
