use Rattle.std.proofs.Common.{◌≡◌, ℕ, List, ◌++◌, ap, ◌∙◌, codes}
use Rattle.cg_name.specs.Path.{path_word}
use Rattle.cg_text.specs.FileText.{flag_word}
use Rattle.cg_world_text.specs.World.{asked_cpus_text, control_text, limits_text, newline, space}
use Rattle.cg_name.proofs.Growing.{Adds, first, more, refused, refused_same}
use Rattle.cg_world_text.proofs.writing.append_group.Goals as goal

-- the word, the path and a space
up_to_path : (x path : List ℕ) {a b c : List ℕ} → a ≡ x ++ codes "group " → b ≡ a ++ path → c ≡ b ++ space → Adds x ((codes "group " ++ path) ++ space) c
up_to_path x path e f h = more space (more path (first x (codes "group ") e) f) h

-- then the controllers and the flag, each with a space behind it
up_to_flag : {x t y a b c d : List ℕ} (control flag : List ℕ) → Adds x t y → a ≡ y ++ control → b ≡ a ++ space → c ≡ b ++ flag → d ≡ c ++ space
    → Adds x ((((t ++ control) ++ space) ++ flag) ++ space) d
up_to_flag control flag path e f h k = more space (more flag (more space (more control path e) f) h) k

pub returns-in_err-append_control-clause-kept : goal.returns-in_err-append_control-clause-kept
returns-in_err-append_control-clause-kept c =
    let path = up_to_path c.args.out.now.items (path_word c.args.path.now) c.in_ok-extend_from_slice.ensures.items c.in_ok-write.ensures.ok c.in_ok-push.ensures.items in
    refused _ path _ c.in_err-append_control.ensures.kept

pub returns-in_err-append_asked_cpus-clause-kept : goal.returns-in_err-append_asked_cpus-clause-kept
returns-in_err-append_asked_cpus-clause-kept c =
    let path = up_to_path c.args.out.now.items (path_word c.args.path.now) c.in_ok-extend_from_slice.ensures.items c.in_ok-write.ensures.ok c.in_ok-push.ensures.items in
    let flagged = c.in_ok-push-3.ensures.items ∙ ap (λ t. c.push-2.new.self.items ++ t) (c.flag.ensures ∙ ap flag_word c.freeze.ensures) in
    let flag = up_to_flag (control_text c.args.settings.now.control) (flag_word c.args.settings.now.freeze) path (c.in_ok-append_control.ensures.ok ∙ ap (λ k. c.push.new.self.items ++ control_text k) c.control.ensures) c.in_ok-push-2.ensures.items flagged c.in_ok-push-4.ensures.items in
    refused _ flag _ c.in_err-append_asked_cpus.ensures.kept

pub returns-in_err-append_limits-clause-kept : goal.returns-in_err-append_limits-clause-kept
returns-in_err-append_limits-clause-kept c =
    let path = up_to_path c.args.out.now.items (path_word c.args.path.now) c.in_ok-extend_from_slice.ensures.items c.in_ok-write.ensures.ok c.in_ok-push.ensures.items in
    let flagged = c.in_ok-push-3.ensures.items ∙ ap (λ t. c.push-2.new.self.items ++ t) (c.flag.ensures ∙ ap flag_word c.freeze.ensures) in
    let flag = up_to_flag (control_text c.args.settings.now.control) (flag_word c.args.settings.now.freeze) path (c.in_ok-append_control.ensures.ok ∙ ap (λ k. c.push.new.self.items ++ control_text k) c.control.ensures) c.in_ok-push-2.ensures.items flagged c.in_ok-push-4.ensures.items in
    let cpus = more (asked_cpus_text c.args.settings.now.cpus) flag (c.in_ok-append_asked_cpus.ensures.ok ∙ ap (λ k. c.push-4.new.self.items ++ asked_cpus_text k) c.cpus.ensures) in
    refused _ cpus _ c.in_err-append_limits.ensures.kept

pub returns-in_err-push-5-clause-kept : goal.returns-in_err-push-5-clause-kept
returns-in_err-push-5-clause-kept c =
    let path = up_to_path c.args.out.now.items (path_word c.args.path.now) c.in_ok-extend_from_slice.ensures.items c.in_ok-write.ensures.ok c.in_ok-push.ensures.items in
    let flagged = c.in_ok-push-3.ensures.items ∙ ap (λ t. c.push-2.new.self.items ++ t) (c.flag.ensures ∙ ap flag_word c.freeze.ensures) in
    let flag = up_to_flag (control_text c.args.settings.now.control) (flag_word c.args.settings.now.freeze) path (c.in_ok-append_control.ensures.ok ∙ ap (λ k. c.push.new.self.items ++ control_text k) c.control.ensures) c.in_ok-push-2.ensures.items flagged c.in_ok-push-4.ensures.items in
    let cpus = more (asked_cpus_text c.args.settings.now.cpus) flag (c.in_ok-append_asked_cpus.ensures.ok ∙ ap (λ k. c.push-4.new.self.items ++ asked_cpus_text k) c.cpus.ensures) in
    let limits = more (limits_text c.args.version c.args.settings.now) cpus c.in_ok-append_limits.ensures.ok in
    refused_same _ limits _ c.in_err-push-5.ensures.items

pub returns-clause-ok : goal.returns-clause-ok
returns-clause-ok c =
    let path = up_to_path c.args.out.now.items (path_word c.args.path.now) c.in_ok-extend_from_slice.ensures.items c.in_ok-write.ensures.ok c.in_ok-push.ensures.items in
    let flagged = c.in_ok-push-3.ensures.items ∙ ap (λ t. c.push-2.new.self.items ++ t) (c.flag.ensures ∙ ap flag_word c.freeze.ensures) in
    let flag = up_to_flag (control_text c.args.settings.now.control) (flag_word c.args.settings.now.freeze) path (c.in_ok-append_control.ensures.ok ∙ ap (λ k. c.push.new.self.items ++ control_text k) c.control.ensures) c.in_ok-push-2.ensures.items flagged c.in_ok-push-4.ensures.items in
    let cpus = more (asked_cpus_text c.args.settings.now.cpus) flag (c.in_ok-append_asked_cpus.ensures.ok ∙ ap (λ k. c.push-4.new.self.items ++ asked_cpus_text k) c.cpus.ensures) in
    let limits = more (limits_text c.args.version c.args.settings.now) cpus c.in_ok-append_limits.ensures.ok in
    let end = more newline limits c.in_ok-push-5.ensures.items in
    end.is
