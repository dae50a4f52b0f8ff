-- `==` of requests and of answers tells whether they mean the same.
use Rattle.std.proofs.Common.{◌≡◌, ℕ, refl, sym, ap, ◌∙◌}
use Rattle.std.proofs.lemmas.Bool.Decides.{Decides-eqb, Decides-like}
use Rattle.std.specs.Bool.{Decides}
use Rattle.std.specs.Cmp.Lexicographic.{bytes_decides}
use denote.Enum.Bare.{same_true, true_same}
use Rattle.cg_history.specs.Meaning.{answer_of, request_of}
use Rattle.cg_history.specs.contracts.record.Answer.{enum as answer_enum}
use Rattle.cg_history.specs.contracts.record.AnswerPartialEq.TheImpl as answer_eq
use Rattle.cg_history.specs.contracts.record.Request.{enum as request_enum}
use Rattle.cg_history.specs.contracts.record.RequestPartialEq.TheImpl as request_eq
use Rattle.cg_history.specs.declared.record.Answer.{Answer}
use Rattle.cg_history.specs.declared.record.Request.{Request}
use Rattle.cg_model.specs.Cgroups.{cgroups}
use Rattle.cg_model.specs.History as history
use Rattle.cg_model.specs.System.{Done, Text}
use Rattle.cg_name.specs.Refusal.{number_of}
use Rattle.cg_name.specs.contracts.controller.Controller.{the_type as controller_type}
use Rattle.cg_name.specs.contracts.controller.ControllerPartialEq.TheImpl as controller_eq
use Rattle.cg_name.specs.contracts.refusal.Refusal.{enum as refusal_enum}
use Rattle.cg_name.specs.contracts.refusal.RefusalPartialEq.TheImpl as refusal_eq
use Rattle.cg_name.specs.declared.controller.Controller.{Controller}
use Rattle.cg_name.specs.declared.refusal.Refusal.{Refusal}
use Rattle.cg_name.specs.declared.refusal.Refusal.TheVariants as refusals
use Rattle.cg_command.proofs.Alike.{commands}
use Rattle.cg_command.proofs.Variants.{also, told}

-- ---- requests

abbrev request_place : history.Request cgroups → ℕ
request_place history.Begin = 0
request_place (history.Do c) = 1
request_place (history.Save n) = 2
request_place (history.Back n) = 3
request_place history.Undo = 4
request_place history.Commit = 5
request_place history.Abort = 6

pub requests : (a b : Request) → Decides (request_eq.ghosts.eq a b) (request_of a ≡ request_of b)
requests a b =
    Decides-like _ (λ e. sym (ap request_of (request_enum.eta a)) ∙ e ∙ ap request_of (request_enum.eta b)) (λ e. ap request_of (request_enum.eta a) ∙ e ∙ sym (ap request_of (request_enum.eta b)))
    (told request_place 0 request_enum.parts (λ c. request_of (request_enum.make c)) _
    (also (λ x. refl) (λ x y. (λ e. refl, λ e. refl))
    (also (λ x. refl) (λ x y. Decides-like _ (ap history.Do) (λ e. cc e) (commands x.0 y.0))
    (also (λ x. refl) (λ x y. Decides-like _ (ap history.Save) (λ e. cc e) (bytes_decides x.0 y.0))
    (also (λ x. refl) (λ x y. Decides-like _ (ap history.Back) (λ e. cc e) (bytes_decides x.0 y.0))
    (also (λ x. refl) (λ x y. (λ e. refl, λ e. refl))
    (also (λ x. refl) (λ x y. (λ e. refl, λ e. refl))
    (also (λ x. refl) (λ x y. (λ e. refl, λ e. refl)) tt)))))))
    (request_enum.as_values a) (request_enum.as_values b))

-- ---- answers

controller_alike : (a b : Controller) → Decides (controller_eq.ghosts.eq a b) (a ≡ b)
controller_alike a b = (same_true controller_type tt a b, true_same controller_type a b)

refused : (r s : Refusal) → Decides (refusal_eq.ghosts.eq r s) (r ≡ s)
refused r s =
    Decides-like _ (λ e. sym (refusal_enum.eta r) ∙ e ∙ refusal_enum.eta s) (λ e. refusal_enum.eta r ∙ e ∙ sym (refusal_enum.eta s))
    (told number_of 1 refusal_enum.parts refusal_enum.make _
    (also (λ x. refl) (λ x y. (λ e. refl, λ e. refl))
    (also (λ x. refl) (λ x y. (λ e. refl, λ e. refl))
    (also (λ x. refl) (λ x y. (λ e. refl, λ e. refl))
    (also (λ x. refl) (λ x y. (λ e. refl, λ e. refl))
    (also (λ x. refl) (λ x y. Decides-like _ (λ e i. refusals.Busy (record { 0 = e i })) (λ e. cc e) (Decides-eqb x.0.0 y.0.0))
    (also (λ x. refl) (λ x y. (λ e. refl, λ e. refl))
    (also (λ x. refl) (λ x y. (λ e. refl, λ e. refl))
    (also (λ x. refl) (λ x y. (λ e. refl, λ e. refl))
    (also (λ x. refl) (λ x y. (λ e. refl, λ e. refl))
    (also (λ x. refl) (λ x y. (λ e. refl, λ e. refl))
    (also (λ x. refl) (λ x y. (λ e. refl, λ e. refl))
    (also (λ x. refl) (λ x y. (λ e. refl, λ e. refl))
    (also (λ x. refl) (λ x y. Decides-like _ (ap refusals.Unavailable) (λ e. cc e) (controller_alike x.0 y.0))
    (also (λ x. refl) (λ x y. Decides-like _ (ap refusals.InUse) (λ e. cc e) (controller_alike x.0 y.0))
    (also (λ x. refl) (λ x y. (λ e. refl, λ e. refl))
    (also (λ x. refl) (λ x y. (λ e. refl, λ e. refl))
    (also (λ x. refl) (λ x y. (λ e. refl, λ e. refl))
    (also (λ x. refl) (λ x y. (λ e. refl, λ e. refl))
    (also (λ x. refl) (λ x y. (λ e. refl, λ e. refl))
    (also (λ x. refl) (λ x y. (λ e. refl, λ e. refl))
    (also (λ x. refl) (λ x y. (λ e. refl, λ e. refl))
    (also (λ x. refl) (λ x y. (λ e. refl, λ e. refl))
    (also (λ x. refl) (λ x y. (λ e. refl, λ e. refl))
    (also (λ x. refl) (λ x y. (λ e. refl, λ e. refl))
    (also (λ x. refl) (λ x y. (λ e. refl, λ e. refl)) tt)))))))))))))))))))))))))
    (refusal_enum.as_values r) (refusal_enum.as_values s))

abbrev answer_place : history.Answer → ℕ
answer_place (history.Begun t) = 0
answer_place (history.Gave Done) = 1
answer_place (history.Gave (Text t)) = 2
answer_place history.Saved = 3
answer_place (history.WentBack n) = 4
answer_place (history.Committed k) = 5
answer_place (history.Aborted t) = 6
answer_place (history.Refused r) = 7

pub answers : (a b : Answer) → Decides (answer_eq.ghosts.eq a b) (answer_of a ≡ answer_of b)
answers a b =
    Decides-like _ (λ e. sym (ap answer_of (answer_enum.eta a)) ∙ e ∙ ap answer_of (answer_enum.eta b)) (λ e. ap answer_of (answer_enum.eta a) ∙ e ∙ sym (ap answer_of (answer_enum.eta b)))
    (told answer_place 0 answer_enum.parts (λ c. answer_of (answer_enum.make c)) _
    (also (λ x. refl) (λ x y. Decides-like _ (ap history.Begun) (λ e. cc e) (Decides-eqb x.0.0 y.0.0))
    (also (λ x. refl) (λ x y. (λ e. refl, λ e. refl))
    (also (λ x. refl) (λ x y. Decides-like _ (λ e i. history.Gave (Text (e i))) (λ e. cc e) (bytes_decides x.0 y.0))
    (also (λ x. refl) (λ x y. (λ e. refl, λ e. refl))
    (also (λ x. refl) (λ x y. Decides-like _ (ap history.WentBack) (λ e. cc e) (Decides-eqb x.0 y.0))
    (also (λ x. refl) (λ x y. Decides-like _ (ap history.Committed) (λ e. cc e) (Decides-eqb x.0 y.0))
    (also (λ x. refl) (λ x y. Decides-like _ (ap history.Aborted) (λ e. cc e) (Decides-eqb x.0.0 y.0.0))
    (also (λ x. refl) (λ x y. Decides-like _ (ap history.Refused) (λ e. cc e) (refused x.0 y.0)) tt))))))))
    (answer_enum.as_values a) (answer_enum.as_values b))
