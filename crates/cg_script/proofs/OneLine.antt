-- A line spells one call at most, and so has one answer at most.
use Rattle.std.proofs.Common.{◌≡◌, ◌⊎◌, ◌==◌, ℕ, cond, codes, get_or, List, [], ◌∷◌, Option, Some, None, refl, sym, ap, subst, ◌∙◌, inl, inr}
use Rattle.std.proofs.lemmas.Option.{none-some, same_Some}
use Rattle.cg_text.proofs.Cuts.{one_saying}
use Rattle.cg_text.specs.Words.{Word, Says}
use Rattle.cg_command_text.specs.CommandText.{SpellsCommand}
use Rattle.cg_command_text.proofs.Keywords.{which}
use Rattle.cg_command_text.proofs.OneCommand.{one_command}
use Rattle.cg_model.specs.Cgroups.{cgroups}
use Rattle.cg_model.specs.Command.{Command}
use Rattle.cg_model.specs.History.{Request, Begin, Do, Save, Back, Undo, Commit, Abort}
use Rattle.cg_script.specs.Request.{SpellsRequest, SpellsCall, SpellsLine}
use Rattle.cg_script.proofs.Facts.{head_same, rest_same}

-- the third byte of the first word, which tells the words of requests without a command apart
abbrev third : List Word → ℕ
third ((a ∷ b ∷ c ∷ w) ∷ ws) = c
third _ = 0

-- the request without a command that has this byte, with the word behind the first
abbrev of_byte : ℕ → Word → Option (Request cgroups)
of_byte b n =
    cond (b == 103) (Some Begin) (cond (b == 118) (Some (Save n)) (cond (b == 99) (Some (Back n)) (cond (b == 100) (Some Undo) (cond (b == 109) (Some Commit) (cond (b == 111) (Some Abort) None)))))

abbrev said : List Word → Option (Request cgroups)
said ws = of_byte (third ws) (get_or ws 1 [])

-- these words spell the request of a command
abbrev IsOfCommand : List Word → Request cgroups → Type 0
IsOfCommand ws r = (c : Command) × (r ≡ Do c) × SpellsCommand ws c

-- or they spell no command, and the request is told by its words
abbrev IsWithout : List Word → Request cgroups → Type 0
IsWithout ws r = ((c : Command) → SpellsCommand ws c → ⊥) × (said ws ≡ Some r)

request_is : (ws : List Word) (r : Request cgroups) → SpellsRequest ws r → IsOfCommand ws r ⊎ IsWithout ws r
request_is ws Begin h = inr (λ c k. which ws (codes "begin" ∷ []) c h k, ap said h)
request_is ws (Do c) h = inl (c, refl, h)
request_is ws (Save n) h = inr (λ c k. which ws (codes "save" ∷ n ∷ []) c h.0 k, ap said h.0)
request_is ws (Back n) h = inr (λ c k. which ws (codes "back" ∷ n ∷ []) c h.0 k, ap said h.0)
request_is ws Undo h = inr (λ c k. which ws (codes "undo" ∷ []) c h k, ap said h)
request_is ws Commit h = inr (λ c k. which ws (codes "commit" ∷ []) c h k, ap said h)
request_is ws Abort h = inr (λ c k. which ws (codes "abort" ∷ []) c h k, ap said h)

both_are : (ws : List Word) (r q : Request cgroups) → IsOfCommand ws r ⊎ IsWithout ws r → IsOfCommand ws q ⊎ IsWithout ws q → r ≡ q
both_are ws r q (inl a) (inl b) = a.1 ∙ ap (λ c. Do c) (one_command ws a.0 b.0 a.2 b.2) ∙ sym b.1
both_are ws r q (inl a) (inr b) = absurd (b.0 a.0 a.2)
both_are ws r q (inr a) (inl b) = absurd (a.0 b.0 b.2)
both_are ws r q (inr a) (inr b) = same_Some _ _ (sym a.1 ∙ b.1)

pub request_one : (ws : List Word) (r q : Request cgroups) → SpellsRequest ws r → SpellsRequest ws q → r ≡ q
request_one ws r q a b = both_are ws r q (request_is ws r a) (request_is ws q b)

call_one : (ws : List Word) (n m : List ℕ) (r q : Request cgroups) → SpellsCall ws n r → SpellsCall ws m q → ◌≡◌ {A = List ℕ × Request cgroups} (n, r) (m, q)
call_one ws n m r q a b =
    let same : n ∷ a.others ≡ m ∷ b.others = sym a.words ∙ b.words in
    let requests : r ≡ q = request_one a.others r q a.request (subst (λ ws. SpellsRequest ws q) (sym (rest_same same)) b.request) in
    λ i. (head_same same i, requests i)

pub line_one : (line : List ℕ) (c d : Option (List ℕ × Request cgroups)) → SpellsLine line c → SpellsLine line d → c ≡ d
line_one line None None a b = refl
line_one line None (Some d) a b = absurd (none-some _ (sym (one_saying line (Some b.0) None b.1 a)))
line_one line (Some c) None a b = absurd (none-some _ (sym (one_saying line (Some a.0) None a.1 b)))
line_one line (Some c) (Some d) a b =
    let words : a.0 ≡ b.0 = same_Some _ _ (one_saying line (Some a.0) (Some b.0) a.1 b.1) in
    ap (λ x. Some x) (call_one a.0 c.0 d.0 c.1 d.1 a.2 (subst (λ ws. SpellsCall ws d.0 d.1) (sym words) b.2))

-- a line in the grammar says something that a line may
pub says_of : (line : List ℕ) (call : Option (List ℕ × Request cgroups)) → SpellsLine line call → (said : Option (List Word)) × Says line said
says_of line None h = (None, h)
says_of line (Some c) h = (Some h.0, h.1)

-- the words that a line says spell what the line spells
pub call_of : (line : List ℕ) (ws : List Word) (call : Option (List ℕ × Request cgroups)) → Says line (Some ws) → SpellsLine line call → (c : List ℕ × Request cgroups) × (call ≡ Some c) × SpellsCall ws c.0 c.1
call_of line ws None says h = absurd (none-some _ (sym (one_saying line (Some ws) None says h)))
call_of line ws (Some c) says h =
    let words : h.0 ≡ ws = same_Some _ _ (one_saying line (Some h.0) (Some ws) h.1 says) in
    (c, refl, subst (λ ws. SpellsCall ws c.0 c.1) words h.2)
