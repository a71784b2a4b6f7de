-- Replies to one line after another.
use Rattle.std.proofs.Common.{◌≡◌, ℕ, List, [], ◌∷◌, ◌++◌, refl, sym, ◌∙◌, ap, append_assoc}
use Rattle.rsp_script_io.specs.Replies.{Answer, replies, final}

pub replies-append : {S : Type 0} (answer_to : List ℕ → S → Answer S) (ls ms : List (List ℕ)) (s : S)
    → replies answer_to (ls ++ ms) s ≡ replies answer_to ls s ++ replies answer_to ms (final answer_to ls s)
replies-append answer_to [] ms s = refl
replies-append answer_to (l ∷ ls) ms s =
    ap (λ t. (answer_to l s).reply ++ t) (replies-append answer_to ls ms (answer_to l s).next)
    ∙ sym (append_assoc (answer_to l s).reply (replies answer_to ls (answer_to l s).next) (replies answer_to ms (final answer_to ls (answer_to l s).next)))

pub final-append : {S : Type 0} (answer_to : List ℕ → S → Answer S) (ls ms : List (List ℕ)) (s : S)
    → final answer_to (ls ++ ms) s ≡ final answer_to ms (final answer_to ls s)
final-append answer_to [] ms s = refl
final-append answer_to (l ∷ ls) ms s = final-append answer_to ls ms (answer_to l s).next
