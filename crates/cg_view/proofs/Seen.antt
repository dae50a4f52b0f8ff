-- What is published, and what is read of it.
use Rattle.std.proofs.Common.{◌≡◌, ℕ, List, [], Result, Ok, Err, IfOk, IfErr, MatchResult, fold, ap, ◌∙◌, sym, subst}
use Rattle.cg_model.specs.File.{file}
use Rattle.cg_name.specs.Path.{Path}
use Rattle.cg_name.specs.declared.file_name.FileName.{FileName}
use Rattle.cg_name.specs.declared.refusal.Refusal.{Refusal}
use Rattle.cg_view.specs.declared.operation.Operation.{Operation}
use Rattle.cg_view.specs.declared.rule.View.{View}
use Rattle.cg_view.specs.declared.shown.Shown.{Shown}
use Rattle.cg_view.specs.Operations.{tree_after}
use Rattle.cg_view.specs.Publishing.{IsPublished}
use Rattle.cg_view.specs.Views.{IsFileOf, Publishes}
use Rattle.cg_view.proofs.Operations.{absorbed, fold_absorbed}

pub if_ok : {A E : Type 0} (r : Result A E) (P Q : A → Type 0) → ((a : A) → P a → Q a) → IfOk r P → IfOk r Q
if_ok (Ok a) P Q f h = f a h
if_ok (Err e) P Q f h = h

pub if_err : {A E : Type 0} (r : Result A E) (P Q : E → Type 0) → ((e : E) → P e → Q e) → IfErr r P → IfErr r Q
if_err (Ok a) P Q f h = h
if_err (Err e) P Q f h = f e h

-- x was entered, and y was looked at
pub seen_file : (v u w : View) (x y : Shown) (p : Path) (f : FileName) (r : Result (List ℕ) Refusal) → Publishes v x x u → y ≡ x → w ≡ u
    → file (tree_after y.opening y.operations.items) p f ≡ r → IsFileOf w p f r
seen_file v u w x y p f r h same left e =
    subst (λ (z : View). IsFileOf z p f r) (sym left) (record {
      began = x.opening;
      from = h.1;
      text = subst (λ l. file (tree_after x.opening l) p f ≡ r) (sym h.2) (subst (λ (z : Shown). file (tree_after z.opening z.operations.items) p f ≡ r) same e);
    })

-- what the writer says of its two copies, of one
pub are_published : {T E : Type 0} (r : Result T E) (x y : Shown) (ops left : List Operation)
    → MatchResult r (λ _. ((y.opening, y.operations.items) ≡ fold absorbed (x.opening, x.operations.items) ops) × (left ≡ [])) (λ _. (y ≡ x) × (left ≡ ops))
    → IsPublished x ops r y left
are_published (Ok t) x y ops left h =
    let both = h.0 ∙ fold_absorbed x.opening x.operations.items ops in
    record { ok = ap (λ p. p.1) both; spent = h.1; opening = ap (λ p. p.0) both; err = tt; kept = tt }
are_published (Err e) x y ops left h = record { ok = tt; spent = tt; opening = ap (λ (s : Shown). s.opening) h.0; err = h.0; kept = h.1 }
