-- A text put together from pieces.
use Rattle.std.proofs.Common.{◌≡◌, ℕ, List, [], ◌∷◌, ◌++◌, ap, ◌∙◌, append_assoc}

-- a brace, a name, a value and the rest
pub object_of_pieces : (o p q r t name a b : List ℕ) → p ≡ o ++ 123 ∷ [] → q ≡ p ++ name → r ≡ q ++ a → t ≡ r ++ b → t ≡ o ++ 123 ∷ (name ++ (a ++ b))
object_of_pieces o p q r t name a b h i j k =
    k
    ∙ ap (λ x. x ++ b) (j ∙ ap (λ x. x ++ a) (i ∙ ap (λ x. x ++ name) h))
    ∙ append_assoc (((o ++ 123 ∷ []) ++ name)) a b
    ∙ append_assoc (o ++ 123 ∷ []) name (a ++ b)
    ∙ append_assoc o (123 ∷ []) (name ++ (a ++ b))
