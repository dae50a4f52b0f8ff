-- Commands of records by their indices.
use Rattle.std.proofs.Common.{◌≡◌, ℕ, zero, suc, ◌<◌, ◌==◌, nat_lt, Bool, true, false, cond, List, [], ◌∷◌, ◌++◌, length, map, get_or, reverse, Option, Some, None, refl, sym, ap, ◌∙◌, ⊎_elim, arith}
use Rattle.std.proofs.lemmas.Bool.Decides.{eqb_tells, same_from_decides, not_from_Decides, Decides-eqb, Decides-like, Decides-ltb}
use Rattle.std.proofs.lemmas.List.{reverse-append, reverse-reverse, length-reverse}
use Rattle.std.specs.List.{slice_get}
use Rattle.std.specs.Option.{option_map}
use Rattle.cg_core_laws.specs.CommittedCommands.{accepted_command, command_at}
use Rattle.cg_history.specs.Meaning.{answer_of, history_of, record_of, request_of}
use Rattle.cg_history.specs.declared.record.Record.{Record}
use Rattle.cg_history.specs.declared.record.Request.{Request}
use Rattle.cg_history.specs.declared.record.Request.TheVariants as requests
use Rattle.cg_command.specs.declared.command.Command as rust
use Rattle.cg_model.specs.Cgroups.{cgroups}
use Rattle.cg_model.specs.Command.{Command}
use Rattle.cg_model.specs.History as model

abbrev of_record : Option (model.Record cgroups) → Option Command
of_record None = None
of_record (Some r) = accepted_command r.request r.answer

eqb_apart : (a b : ℕ) → (a ≡ b → ⊥) → (a == b) ≡ false
eqb_apart a b n = ⊎_elim (λ h. absurd (n h.1)) (λ h. h.0) (eqb_tells a b)

behind_last : {A : Type 0} (xs : List A) (y : A) (n : ℕ) → slice_get (xs ++ y ∷ []) n ≡ cond (length xs == n) (Some y) (slice_get xs n)
behind_last [] y zero = refl
behind_last [] y (suc n) = ap (λ b. cond b (Some y) None) (sym (eqb_apart 0 (suc n) (λ e. omega (arith, e))))
behind_last (x ∷ xs) y zero = ap (λ b. cond b (Some y) (Some x)) (sym (eqb_apart (suc (length xs)) 0 (λ e. omega (arith, e))))
behind_last (x ∷ xs) y (suc n) = behind_last xs y n ∙ ap (λ b. cond b (Some y) (slice_get xs n)) (same_from_decides (length xs == n) (suc (length xs) == suc n) (Decides-eqb (length xs) n) (Decides-like _ (λ e. omega (arith, e)) (λ e. ap suc e) (Decides-eqb (suc (length xs)) (suc n))))

of_either : (b : Bool) (r : model.Record cgroups) (o : Option (model.Record cgroups)) → of_record (cond b (Some r) o) ≡ cond b (accepted_command r.request r.answer) (of_record o)
of_either true r o = refl
of_either false r o = refl

at_index : (h : model.History cgroups) (n : ℕ) → command_at h n ≡ of_record (slice_get (reverse h) n)
at_index [] n = refl
at_index (r ∷ h) n =
    ap (λ o. cond (length h == n) (accepted_command r.request r.answer) o) (at_index h n)
    ∙ ap (λ l. cond (l == n) (accepted_command r.request r.answer) (of_record (slice_get (reverse h) n))) (sym (length-reverse h))
    ∙ sym (of_either (length (reverse h) == n) r (slice_get (reverse h) n))
    ∙ ap of_record (sym (behind_last (reverse h) r n))
    ∙ ap (λ l. of_record (slice_get l n)) (sym (reverse-append (r ∷ []) h))

of_map : (rs : List Record) (n : ℕ) → slice_get (map record_of rs) n ≡ option_map record_of (slice_get rs n)
of_map [] n = refl
of_map (r ∷ rs) zero = refl
of_map (r ∷ rs) (suc n) = of_map rs n

-- the command of a record
pub in_records : (rs : List Record) (n : ℕ) → command_at (history_of rs) n ≡ of_record (option_map record_of (slice_get rs n))
in_records rs n =
    at_index (history_of rs) n ∙ ap (λ l. of_record (slice_get l n)) (reverse-reverse (map record_of rs)) ∙ ap of_record (of_map rs n)

pub accepted_do : (c d : Command) (a : model.Answer) → accepted_command {y = cgroups} (model.Do c) a ≡ Some d → c ≡ d
accepted_do c d (model.Begun t) e = absurd (cc e)
accepted_do c d (model.Gave o) e = cc e
accepted_do c d model.Saved e = absurd (cc e)
accepted_do c d (model.WentBack k) e = absurd (cc e)
accepted_do c d (model.Committed k) e = absurd (cc e)
accepted_do c d (model.Aborted t) e = absurd (cc e)
accepted_do c d (model.Refused r) e = absurd (cc e)

past : {A : Type 0} (xs : List A) (n : ℕ) → (n < length xs → ⊥) → slice_get xs n ≡ None
past [] n h = refl
past (x ∷ xs) zero h = absurd (h (omega arith))
past (x ∷ xs) (suc n) h = past xs n (λ l. h (omega (arith, l)))

within : {A : Type 0} (xs : List A) (n : ℕ) (d : A) → n < length xs → slice_get xs n ≡ Some (get_or xs n d)
within [] n d lt = absurd (omega (arith, lt))
within (x ∷ xs) zero d lt = refl
within (x ∷ xs) (suc n) d lt = within xs n d (omega (arith, lt))

-- there is no command where there is no record
pub no_record : (rs : List Record) (n : ℕ) (c : Command) → false ≡ nat_lt n (length rs) → command_at (history_of rs) n ≡ Some c → ⊥
no_record rs n c at e =
    let none : None ≡ Some c = sym (in_records rs n ∙ ap (λ o. of_record (option_map record_of o)) (past rs n (not_from_Decides (nat_lt n (length rs)) (Decides-ltb n (length rs)) (sym at)))) ∙ e in
    absurd (cc none)

-- it is that which the record there asked for
pub asked_by : (rs : List Record) (n : ℕ) (c : Command) (r : Record) → true ≡ nat_lt n (length rs) → r ≡ get_or rs n r → command_at (history_of rs) n ≡ Some c
    → accepted_command {y = cgroups} (request_of r.request) (answer_of r.answer) ≡ Some c
asked_by rs n c r at is e =
    ap (λ z. accepted_command {y = cgroups} (request_of z.request) (answer_of z.answer)) is
    ∙ sym (in_records rs n ∙ ap (λ o. of_record (option_map record_of o)) (within rs n r ((Decides-ltb n (length rs)).0 (sym at)))) ∙ e

pub no_command : (q : Request) (a : model.Answer) (c : Command) → ((x : rust.Command) → q ≡ requests.Do x → ⊥) → accepted_command {y = cgroups} (request_of q) a ≡ Some c → ⊥
no_command requests.Begin a c n e = absurd (cc e)
no_command (requests.Do x) a c n e = n x refl
no_command (requests.Save s) a c n e = absurd (cc e)
no_command (requests.Back s) a c n e = absurd (cc e)
no_command requests.Undo a c n e = absurd (cc e)
no_command requests.Commit a c n e = absurd (cc e)
no_command requests.Abort a c n e = absurd (cc e)
