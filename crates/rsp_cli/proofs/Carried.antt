-- What was carried out, by how it ended.
use Rattle.std.proofs.Common.{◌≡◌, List, Bool, Option, Result, Ok, Err, ℕ, refl}
use Rattle.rsp_cli_args.specs.declared.Request.{Request}
use Rattle.rsp_cli_files.specs.declared.fault.Fault.{Fault}
use Rattle.rsp_cli.specs.declared.status.Status.{Status}
use Rattle.rsp_cli.specs.Ends.{ended_status, Work, IsWork, IsAllowed, IsCarriedOut}

-- a request that was allowed is carried out with the status of what became of it
pub carried : (same : List ℕ → List ℕ → Option Bool) (out image_after : List ℕ → List ℕ → List ℕ) (asked : Request) (w : Work) (ended : Result (Unit {0}) Fault) (status : Status)
    → IsAllowed same asked → status ≡ ended_status ended → IsWork out image_after asked w ended → IsCarriedOut same out image_after asked w status
carried same out image_after asked w (Ok done) status allowed is work = rw is (allowed, (Ok done, refl, work))
carried same out image_after asked w (Err fault) status allowed is work = rw is (allowed, (Err fault, refl, work))
