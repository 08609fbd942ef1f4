use Rattle.std.proofs.Common.{◌≡◌, map}
use Rattle.std.specs.Prelude.{Ok}
use Rattle.std.specs.List.{list_all, list_any}
use Rattle.base_kit.specs.Asking.{and_then, all_of, left}
use Rattle.row_values.specs.Asked.{truth_asked}
use Rattle.row_values.proofs.Evaluate.{all_more, any_more}
use Rattle.row_values.proofs.condition.+truth.Given as goal

abbrev pub invariant-all_hold-loop-part : goal.invariant-all_hold-loop-part
invariant-all_hold-loop-part l =
    left (truth_asked (map (λ row. row.now) l.rows)) l.parts l.part-index (all_more l.all) ≡ and_then (all_of (map (truth_asked (map (λ row. row.now) l.rows)) l.parts)) (λ bs. Ok (list_all (λ b. b) bs))

abbrev pub invariant-one_holds-loop-part : goal.invariant-one_holds-loop-part
invariant-one_holds-loop-part l =
    left (truth_asked (map (λ row. row.now) l.rows)) l.parts l.part-index (any_more l.one) ≡ and_then (all_of (map (truth_asked (map (λ row. row.now) l.rows)) l.parts)) (λ bs. Ok (list_any (λ b. b) bs))
