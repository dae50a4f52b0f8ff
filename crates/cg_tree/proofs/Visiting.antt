-- A visit leaves all as it was.
use Rattle.std.proofs.Common.{◌≡◌, Option, sym, ap, subst, ◌∙◌}
use Rattle.cg_maps.specs.FiniteMap.{get}
use Rattle.cg_name.specs.Path.{Path}
use Rattle.cg_path_tree.specs.declared.node.NodeKey.{NodeKey}
use Rattle.cg_path_tree.specs.Nodes.{Nodes}
use Rattle.cg_places.specs.Located.{Located}
use Rattle.cg_tree.specs.Contents.{contents_of, Contents, AreKept}
use Rattle.cg_tree.specs.declared.entry.Entry.{Entry}

module _ (nodes later : Nodes Entry) where
  pub seen_again : (places : Located) (v : Contents) → later ≡ nodes → contents_of nodes places ≡ v → contents_of later places ≡ v
  seen_again places v same is = ap (λ n. contents_of n places) same ∙ is

  pub kept_again : (places : Located) → later ≡ nodes → AreKept nodes places → AreKept later places
  kept_again places same kept = subst (λ n. AreKept n places) (sym same) kept

  -- what was found is there
  pub found_again : (p : Path) (r o : Option NodeKey) → later ≡ nodes → r ≡ get nodes.keys p → r ≡ o → o ≡ get later.keys p
  found_again p r o same found is = sym is ∙ found ∙ ap (λ n. get n.keys p) (sym same)
