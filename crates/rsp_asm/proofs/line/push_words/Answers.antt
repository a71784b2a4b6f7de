use Rattle.std.proofs.Common.{◌∙◌, sym, ap, arith, ◌+◌, length}
use Rattle.std.proofs.lemmas.Result.{MatchResult-weaker}
use Rattle.rsp_asm.specs.LineParts.{seen_parts}
use Rattle.rsp_asm.proofs.Statements.{line_said, line_sized, pushed_ok, pushed_kept, pushed_len}
use Rattle.rsp_asm.proofs.line.push_words.Goals as goal

pub push_statement-requires-clause-room : goal.push_statement-requires-clause-room
push_statement-requires-clause-room c =
    let same = line_sized c.args.labels.now c.args.address c.args.line.now (seen_parts c.in-Some.parts) c.in-Some.ensures in
    let room = c.requires.room in
    omega (arith, same, room)

pub returns-clause-ok : goal.returns-clause-ok
returns-clause-ok c =
    MatchResult-weaker c.push_statement.result c.push_statement.ensures
    (λ u p. line_said c.args.labels.now c.args.address c.args.line.now (seen_parts c.in-Some.parts) c.in-Some.ensures ∙ pushed_ok _ _ c.args.words.now.items c.push_statement.new.words.items p)
    (λ kind e. tt)

pub returns-clause-kept : goal.returns-clause-kept
returns-clause-kept c =
    MatchResult-weaker c.push_statement.result c.push_statement.ensures
    (λ u p. pushed_kept _ _ c.args.words.now.items c.push_statement.new.words.items p)
    (λ kind e. tt)

pub returns-clause-len : goal.returns-clause-len
returns-clause-len c =
    MatchResult-weaker c.push_statement.result c.push_statement.ensures
    (λ u p. pushed_len _ _ c.args.words.now.items c.push_statement.new.words.items p ∙ ap (λ n. length c.args.words.now.items + n) (sym (line_sized c.args.labels.now c.args.address c.args.line.now (seen_parts c.in-Some.parts) c.in-Some.ensures)))
    (λ kind e. tt)

pub returns-clause-err : goal.returns-clause-err
returns-clause-err c =
    MatchResult-weaker c.push_statement.result c.push_statement.ensures
    (λ u p. tt)
    (λ kind e. line_said c.args.labels.now c.args.address c.args.line.now (seen_parts c.in-Some.parts) c.in-Some.ensures ∙ e)
