-- No reply is fault 17, OutOfMemory.
use Rattle.std.specs.Prelude.{◌≡◌, ℕ, List, [], ◌∷◌, take, Bool, false, codes}
use Rattle.std.specs.List.{All, flat_map}
use Rattle.std.specs.Str.{bytes_eq}
use Rattle.std.specs.Str.Lines.{lines}
use Rattle.rsp_bench.specs.Session.{SessionState, line_answer, end_reply, first_session}
use Rattle.rsp_bench.specs.Run.{out_of}

-- a reply that is fault 17
abbrev pub is_out_of_memory : List ℕ → Bool
is_out_of_memory reply = bytes_eq (take 8 reply) (codes "fault 17")

-- the reply to each of these lines, and after them the closing fault
abbrev pub reply_list : List (List ℕ) → SessionState → List (List ℕ)
reply_list [] s = end_reply s ∷ []
reply_list (l ∷ ls) s = (line_answer l s).reply ∷ reply_list ls (line_answer l s).next

-- what is written for a script is its replies, joined, and none of them is fault 17
pub record NoReplyIsOutOfMemory (script image : List ℕ) : Type 0 where
  pub joined : flat_map (λ reply. reply) (reply_list (lines script) (first_session image)) ≡ out_of script image
  pub none : All (λ reply. is_out_of_memory reply ≡ false) (reply_list (lines script) (first_session image))
