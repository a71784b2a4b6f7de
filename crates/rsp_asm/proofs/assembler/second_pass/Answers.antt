use Rattle.std.proofs.Common.{ap, subst, arith, ◌+◌, ◌*◌, ◌∷◌, List, ℕ, drop}
use Rattle.std.specs.Str.Lines.{lines}
use Rattle.arrayvec.specs.ArrayVec.{array_vec_len}
use Rattle.rsp_asm.proofs.Passes.{Written, written_more, written_fault, written_all, written_address, written_room}
use Rattle.rsp_asm.proofs.assembler.second_pass.Goals as goal

pub overflow_add-address : goal.overflow_add-address
overflow_add-address c =
    let ls = lines c.args.text.now in
    let table = c.args.labels.now in
    let count = array_vec_len c.loop-line.words in
    let done : Written c.args.origin c.loop-line.number ls (c.in-Some.line.now ∷ lines c.in-Some.more.now) table count c.loop-line.words.items =
    subst (λ (left : List (List ℕ)). Written c.args.origin c.loop-line.number ls left table count c.loop-line.words.items) c.in-Some.ensures.0 c.loop-line.invariant.0 in
    let room = written_room c.args.origin c.loop-line.number ls c.in-Some.line.now (lines c.in-Some.more.now) table count c.loop-line.words.items done in
    let len = c.len.ensures.value in
    omega (arith, room, len, c.requires)

pub push_words-requires : goal.push_words-requires
push_words-requires c =
    let ls = lines c.args.text.now in
    let table = c.args.labels.now in
    let count = array_vec_len c.loop-line.words in
    let done : Written c.args.origin c.loop-line.number ls (c.in-Some.line.now ∷ lines c.in-Some.more.now) table count c.loop-line.words.items =
    subst (λ (left : List (List ℕ)). Written c.args.origin c.loop-line.number ls left table count c.loop-line.words.items) c.in-Some.ensures.0 c.loop-line.invariant.0 in
    let room = written_room c.args.origin c.loop-line.number ls c.in-Some.line.now (lines c.in-Some.more.now) table count c.loop-line.words.items done in
    omega (arith, room, c.requires)

pub returns-in-Err-clause-err : goal.returns-in-Err-clause-err
returns-in-Err-clause-err c =
    let ls = lines c.args.text.now in
    let table = c.args.labels.now in
    let count = array_vec_len c.loop-line.words in
    let done : Written c.args.origin c.loop-line.number ls (c.in-Some.line.now ∷ lines c.in-Some.more.now) table count c.loop-line.words.items =
    subst (λ (left : List (List ℕ)). Written c.args.origin c.loop-line.number ls left table count c.loop-line.words.items) c.in-Some.ensures.0 c.loop-line.invariant.0 in
    written_fault c.args.origin c.loop-line.number ls c.in-Some.line.now (lines c.in-Some.more.now) table count c.loop-line.words.items done (c.args.origin + 4 * c.len.result) c.in-Err.kind (ap (λ n. c.args.origin + 4 * n) c.len.ensures.value) c.in-Err.ensures.err

pub loop-line-preserved : goal.loop-line-preserved
loop-line-preserved c =
    let ls = lines c.args.text.now in
    let table = c.args.labels.now in
    let count = array_vec_len c.loop-line.words in
    let done : Written c.args.origin c.loop-line.number ls (c.in-Some.line.now ∷ lines c.in-Some.more.now) table count c.loop-line.words.items =
    subst (λ (left : List (List ℕ)). Written c.args.origin c.loop-line.number ls left table count c.loop-line.words.items) c.in-Some.ensures.0 c.loop-line.invariant.0 in (
      written_more c.args.origin c.loop-line.number ls c.in-Some.line.now (lines c.in-Some.more.now) table count c.loop-line.words.items done
          (c.args.origin + 4 * c.len.result) (array_vec_len c.push_words.new.words) (drop count c.push_words.new.words.items) c.push_words.new.words.items
          (ap (λ n. c.args.origin + 4 * n) c.len.ensures.value) c.in_default-push_words.ensures.ok c.in_default-push_words.ensures.len c.in_default-push_words.ensures.kept,
      omega (arith, c.in-Some.ensures.1),
    )

pub returns-clause-ok : goal.returns-clause-ok
returns-clause-ok c =
    let ls = lines c.args.text.now in
    let table = c.args.labels.now in
    let count = array_vec_len c.loop-line.words in
    written_all c.args.origin c.loop-line.number ls table count c.loop-line.words.items
    (subst (λ (left : List (List ℕ)). Written c.args.origin c.loop-line.number ls left table count c.loop-line.words.items) c.in_default.ensures c.loop-line.invariant.0)

pub returns-clause-room : goal.returns-clause-room
returns-clause-room c =
    let ls = lines c.args.text.now in
    let table = c.args.labels.now in
    let count = array_vec_len c.loop-line.words in
    let address = written_address c.args.origin c.loop-line.number ls table count c.loop-line.words.items
    (subst (λ (left : List (List ℕ)). Written c.args.origin c.loop-line.number ls left table count c.loop-line.words.items) c.in_default.ensures c.loop-line.invariant.0) in
    omega (arith, address, c.requires)
