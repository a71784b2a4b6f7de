use Rattle.std.proofs.Common.{◌≡◌, ap, ◌∙◌, sym, ◌+◌, ◌*◌, take, get_or, arith, true}
use Rattle.std.specs.Prelude.{nat_lt, min}
use Rattle.std.specs.Char.{digit_value}
use Rattle.std.specs.Str.Parse.{digits_value}
use Rattle.std.proofs.lemmas.Bool.{lt-ltb}
use Rattle.std.proofs.lemmas.Int.Digits.{digits_value_more}
use Rattle.rsp_syntax.specs.Capping.{number_cap}
use Rattle.rsp_syntax.proofs.Numerals.{capped_step, all_more}
use Rattle.rsp_syntax.proofs.numbers.numeral.Goals as goal

pub loop-c-preserved : goal.loop-c-preserved
loop-c-preserved c =
    let text = c.args.text.now in
    let i = c.loop-c.c-index in
    let radix = c.args.radix in
    let here : nat_lt (digit_value (get_or text i 0)) radix ≡ true = cc (lt-ltb _ _ c.in_ok-digit.ensures.value.0) in
    let test = all_more (λ d. nat_lt (digit_value d) radix) text i (omega arith) c.loop-c.invariant.0 here in
    let more = digits_value_more radix text i (omega arith) in
    let step = capped_step (digits_value radix (take i text)) radix (digit_value (get_or text i 0)) number_cap (omega arith) in
    let same : c.min-value.result ≡ min (min (digits_value radix (take i text)) number_cap * radix + digit_value (get_or text i 0)) number_cap = cc (c.in_ok-digit.ensures.value.1) in
    (test, same ∙ step ∙ ap (λ n. min n number_cap) (sym more), omega arith)
