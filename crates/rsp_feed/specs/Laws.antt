-- A script that is cut into pieces.
use Rattle.std.specs.Prelude.{◌≡◌, ℕ, List, [], ◌∷◌, ◌++◌}
use Rattle.std.specs.List.{concat}
use Rattle.rsp_bench.specs.Run.{out_of, session_of}
use Rattle.rsp_feed.specs.Bench.{BenchState, first_bench, reply_to, bench_after, last_reply, bench_ended}

-- what a bench replies to pieces, one after another, and then to the end of input
abbrev pub written_to : List (List ℕ) → BenchState → List ℕ
written_to [] b = last_reply b
written_to (p ∷ ps) b = reply_to p b ++ written_to ps (bench_after p b)

-- the bench afterwards
abbrev pub left_by : List (List ℕ) → BenchState → BenchState
left_by [] b = bench_ended b
left_by (p ∷ ps) b = left_by ps (bench_after p b)

-- However a script is cut, what the bench replies is what is written for the script, and the session is the one that the script leaves.
abbrev pub AnyCutComesOut : Type 0
AnyCutComesOut = (pieces : List (List ℕ)) (image : List ℕ)
    → (written_to pieces (first_bench image) ≡ out_of (concat pieces) image)
    × ((left_by pieces (first_bench image)).session ≡ session_of (concat pieces) image)
