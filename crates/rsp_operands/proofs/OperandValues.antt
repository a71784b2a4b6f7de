-- What was read of a text, by what the text says.
use Rattle.std.proofs.Common.{◌≡◌, refl, ap, ◌∙◌, ℕ, [], ◌∷◌, List}
use Rattle.std.specs.Prelude.{Option, Some, None, option_map}
use Rattle.rsp_syntax.specs.declared.operand_range.OperandRange.{OperandRange}
use Rattle.rsp_syntax.specs.Numbers.{Expression}
use Rattle.rsp_syntax.specs.Statement.{ranged_value, memory}
use Rattle.rsp_syntax.specs.Capping.{capped_expression}
use Rattle.rsp_operands.specs.OperandValues.{capped_value}

pub found_value : (range : OperandRange) (ns : List ℕ) (o : Option Expression) (e : Expression) → Some e ≡ option_map capped_expression o → Some (ranged_value range ns e) ≡ option_map capped_value (option_map (ranged_value range ns) o)
found_value range ns None e h = absurd cc
found_value range ns (Some x) e h = let same : e ≡ capped_expression x = cc in ap (λ y. Some (ranged_value range ns y)) same

pub found_memory : (range : OperandRange) (o : Option Expression) (e : Expression) (b : ℕ) (base : Option ℕ) → Some e ≡ option_map capped_expression o → Some b ≡ base → Some (ranged_value range (b ∷ []) e) ≡ option_map capped_value (memory range o base)
found_memory range None e b base h k = absurd cc
found_memory range (Some x) e b base h k = let same : e ≡ capped_expression x = cc in ap (λ y. Some (ranged_value range (b ∷ []) y)) same ∙ ap (λ t. option_map capped_value (memory range (Some x) t)) k

pub lost_base : (range : OperandRange) (o : Option Expression) → memory range o None ≡ None
lost_base range None = refl
lost_base range (Some e) = refl

-- What some code found of a value that it saw, where it found that of each text's meaning that it may have seen, is what is
-- found of the text's meaning itself.
pub found_alike : {A B C : Type 0} (seen : A) (f : B → A) (g : B → C) (o : Option B) (x : C) → Some seen ≡ option_map f o → ((y : B) → seen ≡ f y → x ≡ g y) → Some x ≡ option_map g o
found_alike seen f g None x e all = absurd cc
found_alike seen f g (Some y) x e all = ap Some (all y cc)
