-- How a quoted word is closed: byte by byte, and in one way.
use Rattle.std.proofs.Common.{◌≡◌, ◌≢◌, ◌⊎◌, inl, inr, ◌↔◌, ℕ, ◌==◌, ◌||◌, Bool, true, false, List, [], ◌∷◌, ◌++◌, refl, ap, sym, subst, ◌∙◌, true≢false, arith}
use Rattle.std.proofs.lemmas.Bool.Decides.{nat_tests}
use Rattle.cg_name.specs.Word.{is_special, StandFor}
use Rattle.cg_text.specs.Cutting.{is_escaped, Closes}

same_head : {x y : ℕ} {xs ys : List ℕ} → x ∷ xs ≡ y ∷ ys → x ≡ y
same_head e = cc

same_tail : {x y : ℕ} {xs ys : List ℕ} → x ∷ xs ≡ y ∷ ys → xs ≡ ys
same_tail e = cc

-- the closing mark comes next, or a byte that stands for itself, or an escape
record Plain (text rest : List ℕ) : Type 0 where
  pub byte : ℕ
  pub others : List ℕ
  pub parts : text ≡ byte ∷ others
  pub unmarked : is_special byte ≡ false
  pub closes : Closes others rest

record Escape (text rest : List ℕ) : Type 0 where
  pub byte : ℕ
  pub others : List ℕ
  pub parts : text ≡ 92 ∷ byte ∷ others
  pub escaped : is_escaped byte ≡ true
  pub closes : Closes others rest

abbrev Next : List ℕ → List ℕ → Type 0
Next text rest = (text ≡ 34 ∷ rest) ⊎ (Plain text rest ⊎ Escape text rest)

mark_is_escaped : (b : ℕ) → is_special b ≡ true → is_escaped b ≡ true
mark_is_escaped b e = ap (λ m. m || (b == 110)) e

next_in : (text rest body bytes : List ℕ) → text ≡ body ++ 34 ∷ rest → StandFor body bytes → Next text rest
next_in text rest body [] e s = inl (e ∙ ap (λ z. z ++ 34 ∷ rest) s)
next_in text rest body (b ∷ bytes) e s =
    let parts : text ≡ (s.0 ++ s.1) ++ 34 ∷ rest = e ∙ ap (λ z. z ++ 34 ∷ rest) s.2 in
    let with_piece : (piece : List ℕ) → s.0 ≡ piece → text ≡ (piece ++ s.1) ++ 34 ∷ rest = λ piece q. parts ∙ ap (λ z. (z ++ s.1) ++ 34 ∷ rest) q in
    let closes : Closes (s.1 ++ 34 ∷ rest) rest = record { body = s.1; bytes = bytes; parts = refl; stand = s.4 } in
    elim s.3 [
      | inl p ↦ inr (inl (record { byte = b; others = s.1 ++ 34 ∷ rest; parts = with_piece _ p.0; unmarked = p.1; closes = closes }))
      | inr m ↦ elim m [
        | inl p ↦ inr (inr (record { byte = b; others = s.1 ++ 34 ∷ rest; parts = with_piece _ p.0; escaped = mark_is_escaped b p.1; closes = closes }))
        | inr p ↦ inr (inr (record { byte = 110; others = s.1 ++ 34 ∷ rest; parts = with_piece _ p.0; escaped = refl; closes = closes }))
      ]
    ]

next : (text rest : List ℕ) → Closes text rest → Next text rest
next text rest c = next_in text rest c.body c.bytes c.parts c.stand

mark_34 : (b : ℕ) → b ≡ 34 → is_special b ≡ true
mark_34 b e = ap is_special e

mark_92 : (b : ℕ) → b ≡ 92 → is_special b ≡ true
mark_92 b e = ap is_special e

-- ---- each step

pub nothing_closes : (rest : List ℕ) → Closes [] rest → ⊥
nothing_closes rest c = elim (next [] rest c) [
  | inl e ↦ cc
  | inr m ↦ elim m [ inl p ↦ let e : [] ≡ p.byte ∷ p.others = p.parts in cc | inr p ↦ let e : [] ≡ 92 ∷ p.byte ∷ p.others = p.parts in cc ]
]

pub mark_closes : (text : List ℕ) → Closes (34 ∷ text) text
mark_closes text = record { body = []; bytes = []; parts = refl; stand = refl }

pub mark_closed : (text rest : List ℕ) → Closes (34 ∷ text) rest → text ≡ rest
mark_closed text rest c = elim (next (34 ∷ text) rest c) [
  | inl e ↦ same_tail e
  | inr m ↦ elim m [
    | inl p ↦ absurd (true≢false (sym (mark_34 p.byte (sym (same_head p.parts))) ∙ p.unmarked))
    | inr p ↦ absurd (let e : 34 ≡ 92 = same_head p.parts in omega (arith, e))
  ]
]

pub plain_closes : (b : ℕ) (text rest : List ℕ) → is_special b ≡ false → Closes text rest → Closes (b ∷ text) rest
plain_closes b text rest unmarked c =
    record { body = b ∷ c.body; bytes = b ∷ c.bytes; parts = ap (λ z. b ∷ z) c.parts; stand = (b ∷ [], c.body, refl, inl (refl, unmarked), c.stand) }

pub plain_closed : (b : ℕ) (text rest : List ℕ) → is_special b ≡ false → Closes (b ∷ text) rest → Closes text rest
plain_closed b text rest unmarked c = elim (next (b ∷ text) rest c) [
  | inl e ↦ absurd (true≢false (sym (mark_34 b (same_head e)) ∙ unmarked))
  | inr m ↦ elim m [
    | inl p ↦ subst (λ z. Closes z rest) (sym (same_tail p.parts)) p.closes
    | inr p ↦ absurd (true≢false (sym (mark_92 b (same_head p.parts)) ∙ unmarked))
  ]
]

pub escape_closes : (b : ℕ) (text rest : List ℕ) → is_escaped b ≡ true → Closes text rest → Closes (92 ∷ b ∷ text) rest
escape_closes b text rest escaped c = by_mark (is_special b) refl
  where
    by_mark : (m : Bool) → is_special b ≡ m → Closes (92 ∷ b ∷ text) rest
    by_mark true e =
        record { body = 92 ∷ b ∷ c.body; bytes = b ∷ c.bytes; parts = ap (λ z. 92 ∷ b ∷ z) c.parts; stand = (92 ∷ b ∷ [], c.body, refl, inr (inl (refl, e)), c.stand) }
    by_mark false e =
        let n : (b == 110) ≡ true = sym (ap (λ m. m || (b == 110)) e) ∙ escaped in
        let same : b ≡ 110 = grind (arith, nat_tests) in
        record { body = 92 ∷ b ∷ c.body; bytes = 10 ∷ c.bytes; parts = ap (λ z. 92 ∷ b ∷ z) c.parts; stand = (92 ∷ b ∷ [], c.body, refl, inr (inr (ap (λ z. 92 ∷ z ∷ []) same, refl)), c.stand) }

pub escape_closed : (b : ℕ) (text rest : List ℕ) → Closes (92 ∷ b ∷ text) rest → (is_escaped b ≡ true) × Closes text rest
escape_closed b text rest c = elim (next (92 ∷ b ∷ text) rest c) [
  | inl e ↦ absurd (let k : 92 ≡ 34 = same_head e in omega (arith, k))
  | inr m ↦ elim m [
    | inl p ↦ absurd (true≢false (sym (mark_92 p.byte (sym (same_head p.parts))) ∙ p.unmarked))
    | inr p ↦
        let e : b ∷ text ≡ p.byte ∷ p.others = same_tail p.parts in
        (ap is_escaped (same_head e) ∙ p.escaped, subst (λ z. Closes z rest) (sym (same_tail e)) p.closes)
  ]
]

pub lone_backslash : (rest : List ℕ) → Closes (92 ∷ []) rest → ⊥
lone_backslash rest c = elim (next (92 ∷ []) rest c) [
  | inl e ↦ let k : 92 ≡ 34 = same_head e in omega (arith, k)
  | inr m ↦ elim m [
    | inl p ↦ true≢false (sym (mark_92 p.byte (sym (same_head p.parts))) ∙ p.unmarked)
    | inr p ↦ let e : [] ≡ p.byte ∷ p.others = same_tail p.parts in cc
  ]
]

-- a step over a byte, or over an escape, of a rest that closes as the text does
pub plain_step : (rest text others behind : List ℕ) (b : ℕ) → rest ≡ b ∷ others → is_special b ≡ false → (Closes rest behind ↔ Closes text behind) → Closes others behind ↔ Closes text behind
plain_step rest text others behind b e unmarked same =
    (λ h. same.0 (subst (λ z. Closes z behind) (sym e) (plain_closes b others behind unmarked h)), λ h. plain_closed b others behind unmarked (subst (λ z. Closes z behind) e (same.1 h)))

pub escape_step : (rest text others behind : List ℕ) (b : ℕ) → rest ≡ 92 ∷ b ∷ others → is_escaped b ≡ true → (Closes rest behind ↔ Closes text behind) → Closes others behind ↔ Closes text behind
escape_step rest text others behind b e escaped same =
    (λ h. same.0 (subst (λ z. Closes z behind) (sym e) (escape_closes b others behind escaped h)), λ h. (escape_closed b others behind (subst (λ z. Closes z behind) e (same.1 h))).1)

pub other_is_no_mark : (b : ℕ) → b ≢ 34 → b ≢ 92 → is_special b ≡ false
other_is_no_mark b quotation backslash = grind (arith, nat_tests)

-- what follows a backslash is no escape
pub bad_escape : (text : List ℕ) → ((b : ℕ) (others : List ℕ) → text ≡ b ∷ others → is_escaped b ≡ false) → (rest : List ℕ) → Closes (92 ∷ text) rest → ⊥
bad_escape [] h rest c = lone_backslash rest c
bad_escape (b ∷ text) h rest c = true≢false (sym (escape_closed b text rest c).0 ∙ h b text refl)

-- ---- in one way

closed_in_one_way : (bytes text r s body : List ℕ) → text ≡ body ++ 34 ∷ r → StandFor body bytes → Closes text s → r ≡ s
closed_in_one_way [] text r s body e stand k = mark_closed r s (subst (λ z. Closes z s) (e ∙ ap (λ z. z ++ 34 ∷ r) stand) k)
closed_in_one_way (b ∷ bytes) text r s body e stand k =
    let parts : text ≡ (stand.0 ++ stand.1) ++ 34 ∷ r = e ∙ ap (λ z. z ++ 34 ∷ r) stand.2 in
    let with_piece : (piece : List ℕ) → stand.0 ≡ piece → Closes ((piece ++ stand.1) ++ 34 ∷ r) s = λ piece q. subst (λ z. Closes z s) (parts ∙ ap (λ z. (z ++ stand.1) ++ 34 ∷ r) q) k in
    let others : Closes (stand.1 ++ 34 ∷ r) s → r ≡ s = λ c. closed_in_one_way bytes (stand.1 ++ 34 ∷ r) r s stand.1 refl stand.4 c in
    elim stand.3 [
      | inl p ↦ others (plain_closed b _ s p.1 (with_piece (b ∷ []) p.0))
      | inr m ↦ elim m [
        | inl p ↦ others (escape_closed b _ s (with_piece (92 ∷ b ∷ []) p.0)).1
        | inr p ↦ others (escape_closed 110 _ s (with_piece (92 ∷ 110 ∷ []) p.0)).1
      ]
    ]

pub one_close : (text r s : List ℕ) → Closes text r → Closes text s → r ≡ s
one_close text r s c k = closed_in_one_way c.bytes text r s c.body c.parts c.stand k
