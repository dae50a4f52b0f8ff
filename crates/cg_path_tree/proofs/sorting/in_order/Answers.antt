-- The keys of what was sorted.
use Rattle.std.proofs.Common.{rules, ◌≡◌, ◌<◌, ◌+◌, ℕ, List, [], ◌∷◌, ◌++◌, map, length, get_or, Bor, refl, sym, ap, subst, ◌∙◌, arith}
use Rattle.std.specs.List.{AllByRecursion}
use Rattle.std.specs.List.Sorted.{IsPermutation}
use Rattle.std.specs.Ordering.{nat_cmp, is_lt}
use Rattle.std.specs.Cmp.Lexicographic.{slice_cmp}
use Rattle.std.proofs.lemmas.List.{map-append, take_more}
use Rattle.std.proofs.lemmas.List.Elements.{All-from_recursion, recursion_from_All}
use Rattle.std.proofs.lemmas.List.Sorted.{answers_always, IsPermutation-map, All-permutation}
use Rattle.std.proofs.lemmas.Option.{slice_get-get_or}
use Rattle.cg_path_tree.specs.declared.node.NodeKey.{NodeKey}
use Rattle.cg_path_tree.specs.Listing.{texts_of}
use Rattle.cg_path_tree.proofs.Listing.{adjacent_mapped, take_all, all_pushed, each_at}
use Rattle.cg_path_tree.proofs.Leading.{IsNumbered, unnumbered, in_order_by_texts}
use Rattle.cg_path_tree.proofs.sorting.in_order.Goals as goal

abbrev text_with_key : ℕ × Bor (List ℕ) × NodeKey → List ℕ × NodeKey
text_with_key e = (e.1.now, e.2)

bare : (es : List (ℕ × Bor (List ℕ) × NodeKey)) → map text_with_key es ≡ texts_of (map unnumbered es)
bare [] = refl
bare (e ∷ es) = ap (λ rest. text_with_key e ∷ rest) (bare es)

keys_kept : (es : List (ℕ × Bor (List ℕ) × NodeKey)) → map (λ e. e.2) es ≡ map (λ (e : List ℕ × NodeKey). e.1) (map text_with_key es)
keys_kept [] = refl
keys_kept (e ∷ es) = ap (λ ks. e.2 ∷ ks) (keys_kept es)

pub loop-entry-preserved : goal.loop-entry-preserved
loop-entry-preserved c =
    let made = c.loop-entry.entries.items in
    let items = c.deref-entry-items.result.now in
    let place = c.loop-entry.entry-index in
    let item = get_or items place (record { ref_ptr = (0, 0); now = [] }, record { 0 = 0 }) in
    let entry : ℕ × Bor (List ℕ) × NodeKey = (c.leading_number.result, item.0, item.1) in
    let pushed : c.push.new.self.items ≡ made ++ entry ∷ [] = c.in_ok-push.ensures.items in
    record {
      texts =
          ap (map unnumbered) pushed
          ∙ map-append unnumbered made (entry ∷ [])
          ∙ ap (λ es. es ++ item ∷ []) c.loop-entry.invariant.texts
          ∙ sym (take_more items place (record { ref_ptr = (0, 0); now = [] }, record { 0 = 0 }) c.loop-entry-test.true);
      numbers =
          subst (AllByRecursion IsNumbered) (sym pushed)
          (all_pushed IsNumbered made entry c.loop-entry.invariant.numbers (record { number = c.leading_number.ensures.value; bytes = c.leading_number.ensures.bytes }));
    }

pub returns : goal.returns
returns c =
    let made = c.loop-entry.entries.items in
    let sorted = c.sort_unstable_by_key.new.self.items in
    let all : map unnumbered made ≡ c.args.found.items =
    c.loop-entry.invariant.texts ∙ take_all c.loop-entry.entry-index c.deref-entry-items.result.now (omega arith) ∙ c.deref-entry-items.ensures.value in
    let moved : IsPermutation made sorted = c.sort_unstable_by_key.ensures.permutation in
    let numbered : AllByRecursion IsNumbered sorted =
    recursion_from_All IsNumbered sorted (All-permutation IsNumbered made sorted moved (All-from_recursion IsNumbered made c.loop-entry.invariant.numbers)) in
    let at = λ (k : ℕ) (d : ℕ × Bor (List ℕ) × NodeKey) (low : k < length sorted). each_at IsNumbered sorted numbered k (get_or sorted k d) (slice_get-get_or sorted k d low) in
    record {
      entries = map text_with_key sorted;
      same = subst (λ es. IsPermutation es (map text_with_key sorted)) (bare made ∙ ap texts_of all) (IsPermutation-map text_with_key made sorted moved);
      ascend =
          adjacent_mapped text_with_key (λ a b. is_lt (slice_cmp nat_cmp a.0 b.0)) sorted
          (λ k d low within.
          in_order_by_texts (get_or sorted (k + 1) d) (get_or sorted k d) (at (k + 1) d within) (at k d (omega arith))
          (c.sort_unstable_by_key.ensures.sorted (λ e. (e.0, e.1)) (answers_always _ _ _ (λ f a r g h. search rules)) k d low within));
      keys =
          c.loop-entry-2.invariant
          ∙ ap (map (λ e. e.2)) (take_all c.loop-entry-2.entry-index c.deref-entry-items-2.result.now (omega arith) ∙ c.deref-entry-items-2.ensures.value)
          ∙ keys_kept sorted;
    }
