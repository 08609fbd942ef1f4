use Rattle.std.proofs.Common.{◌≡◌, ◌≤ℤ◌, ◌<ℤ◌, List, ap, sym, ◌∙◌, refl, set, length, ℤ, ◌-◌, arith, rules, subst}
use Rattle.std.proofs.lemmas.List.{set-set, set-get_or, length-set}
use Rattle.std.proofs.lemmas.Int.{to_z-of_z}
use mir.Val.{to_z, of_z, SFits}
use mir.Syntax.{w64}
use Rattle.ip_rows.specs.declared.Bounds.{Bounds}
use Rattle.branch_tree.specs.Boxes.{side_at, low_box, high_box, IsParted}
use Rattle.branch_tree.specs.Listing.{AreSides, IsMiddle}
use Rattle.branch_tree.proofs.Columns.{no_side, one_point, open_has_two, open_within, sides_low, sides_high}
use Rattle.world_listing.specs.declared.search.Search.{Search}
use Rattle.world_listing.specs.Judge.{judged_by, value_by}
use Rattle.world_listing.specs.Faults.{FaultsAs}
use Rattle.world_listing.specs.Works.{Works}
use Rattle.world_points.proofs.Told.{agree}
use Rattle.world_listing.proofs.Sizes.{columns_few}
use Rattle.std.proofs.lemmas.Result.{err_from_is_err_and}
use Rattle.world_listing.proofs.Steps.{works_open, works_point, works_halves, low_width, high_width, fault_point, fault_low, fault_high}
use Rattle.world_listing.proofs.search.+explore.Goals as goal

pub returns-then-search-eq0-clause-works : goal.returns-then-search-eq0-clause-works
returns-then-search-eq0-clause-works t c = works_open _ _ _ _ _ c.if-search-eq0.true c.in_ok-add.ensures refl refl

pub returns-in-None-clause-works : goal.returns-in-None-clause-works
returns-in-None-clause-works t c =
    works_point (value_by c.args.judge.now) (judged_by c.args.judge.now) (agree c.args.judge.now.query.now c.args.judge.now.tables.now c.args.judge.now.columns.now c.requires.asked.fit) c.args.sides.now c.args.search.now c.close.new.search
    (one_point c.args.sides.now c.requires.sides (sym c.in-None.ensures)) (omega arith) c.in_ok-close-in-None.ensures.nodes c.in_ok-close-in-None.ensures.left c.in_ok-close-in-None.ensures.best

pub returns-in_err-close-in-None-clause-fault : goal.returns-in_err-close-in-None-clause-fault
returns-in_err-close-in-None-clause-fault t c =
    let p = err_from_is_err_and c.from_residual-in_err-close-in-None.result c.from_residual-in_err-close-in-None.ensures.1 in
    rw (p.1, p.2) (fault_point (judged_by c.args.judge.now) c.args.search.now.left c.args.sides.now c.in_err-close-in-None.field-0.0 (one_point c.args.sides.now c.requires.sides (sym c.in-None.ensures)) (omega arith) c.in_err-close-in-None.ensures.fault)

pub overflow_cast-split : goal.overflow_cast-split
overflow_cast-split t c =
    omega (arith, open_within c.args.sides.now c.in-Some.column (sym c.in-Some.ensures), columns_few c.args.judge.now.query.now c.args.judge.now.tables.now c.args.judge.now.columns.now c.requires.asked.made)

pub middle-at-requires : goal.middle-at-requires
middle-at-requires t c = open_has_two c.args.sides.now c.in-Some.column (sym c.in-Some.ensures)

pub explore-requires : goal.explore-requires
explore-requires t c =
    let fits : SFits w64 c.middle-at.result = search rules in
    let same : to_z w64 (of_z w64 c.middle-at.result) ≡ c.middle-at.result = to_z-of_z w64 c.middle-at.result fits in
    let parted : IsParted c.args.sides.now c.in-Some.column (to_z w64 (of_z w64 c.middle-at.result)) = record { there = open_within c.args.sides.now c.in-Some.column (sym c.in-Some.ensures); low = subst (λ (n : ℤ). (side_at c.args.sides.now c.in-Some.column).lo ≤ℤ n) (sym same) c.middle-at.ensures.low; high = subst (λ (n : ℤ). n <ℤ (side_at c.args.sides.now c.in-Some.column).hi) (sym same) c.middle-at.ensures.high } in
    let box : c.put.new.sides ≡ low_box c.args.sides.now c.in-Some.column (to_z w64 (of_z w64 c.middle-at.result)) =
    c.put.ensures ∙ ap (set c.args.sides.now c.in-Some.column) c.halves.ensures.low in (
      omega (arith, c.decreases, low_width c.args.sides.now c.in-Some.column _ c.halves.result.0 c.put.new.sides (sym c.in-Some.ensures) parted c.halves.ensures.low c.put.ensures),
      (
        c.requires.asked,
        (
          subst AreSides (sym box) (sides_low c.args.sides.now c.in-Some.column _ c.requires.sides parted),
          omega (arith, ap length box, length-set {A = Bounds}, c.requires.long),
        ),
      ),
    )

pub explore-requires-2 : goal.explore-requires-2
explore-requires-2 t c =
    let fits : SFits w64 c.middle-at.result = search rules in
    let same : to_z w64 (of_z w64 c.middle-at.result) ≡ c.middle-at.result = to_z-of_z w64 c.middle-at.result fits in
    let parted : IsParted c.args.sides.now c.in-Some.column (to_z w64 (of_z w64 c.middle-at.result)) = record { there = open_within c.args.sides.now c.in-Some.column (sym c.in-Some.ensures); low = subst (λ (n : ℤ). (side_at c.args.sides.now c.in-Some.column).lo ≤ℤ n) (sym same) c.middle-at.ensures.low; high = subst (λ (n : ℤ). n <ℤ (side_at c.args.sides.now c.in-Some.column).hi) (sym same) c.middle-at.ensures.high } in
    let put : c.put-2.new.sides ≡ set c.args.sides.now c.in-Some.column c.halves.result.1 =
    c.put-2.ensures ∙ ap (λ (l : List Bounds). set l c.in-Some.column c.halves.result.1) (c.in_ok-explore.ensures.sides ∙ c.put.ensures) ∙ set-set c.args.sides.now c.in-Some.column c.halves.result.0 c.halves.result.1 in
    let box : c.put-2.new.sides ≡ high_box c.args.sides.now c.in-Some.column (to_z w64 (of_z w64 c.middle-at.result)) =
    put ∙ ap (set c.args.sides.now c.in-Some.column) c.halves.ensures.high in (
      omega (arith, c.decreases, high_width c.args.sides.now c.in-Some.column _ c.halves.result.1 c.put-2.new.sides (sym c.in-Some.ensures) parted c.halves.ensures.high put),
      (
        c.requires.asked,
        (
          subst AreSides (sym box) (sides_high c.args.sides.now c.in-Some.column _ c.requires.sides parted),
          omega (arith, ap length box, length-set {A = Bounds}, c.requires.long),
        ),
      ),
    )

pub returns-clause-sides : goal.returns-clause-sides
returns-clause-sides t c =
    let put : c.put-2.new.sides ≡ set c.args.sides.now c.in-Some.column c.halves.result.1 =
    c.put-2.ensures ∙ ap (λ (l : List Bounds). set l c.in-Some.column c.halves.result.1) (c.in_ok-explore.ensures.sides ∙ c.put.ensures) ∙ set-set c.args.sides.now c.in-Some.column c.halves.result.0 c.halves.result.1 in
    c.put-3.ensures ∙ ap (λ (l : List Bounds). set l c.in-Some.column (side_at c.args.sides.now c.in-Some.column)) (c.in_ok-explore-2.ensures.sides ∙ put)
    ∙ set-set c.args.sides.now c.in-Some.column c.halves.result.1 (side_at c.args.sides.now c.in-Some.column)
    ∙ set-get_or c.args.sides.now c.in-Some.column no_side

pub returns-clause-works : goal.returns-clause-works
returns-clause-works t c =
    let fits : SFits w64 c.middle-at.result = search rules in
    let same : to_z w64 (of_z w64 c.middle-at.result) ≡ c.middle-at.result = to_z-of_z w64 c.middle-at.result fits in
    let parted : IsParted c.args.sides.now c.in-Some.column (to_z w64 (of_z w64 c.middle-at.result)) = record { there = open_within c.args.sides.now c.in-Some.column (sym c.in-Some.ensures); low = subst (λ (n : ℤ). (side_at c.args.sides.now c.in-Some.column).lo ≤ℤ n) (sym same) c.middle-at.ensures.low; high = subst (λ (n : ℤ). n <ℤ (side_at c.args.sides.now c.in-Some.column).hi) (sym same) c.middle-at.ensures.high } in
    let middle = subst (λ (n : ℤ). IsMiddle (side_at c.args.sides.now c.in-Some.column) n) (sym same) c.middle-at.ensures.middle in
    let low_is : c.put.new.sides ≡ low_box c.args.sides.now c.in-Some.column (to_z w64 (of_z w64 c.middle-at.result)) =
    c.put.ensures ∙ ap (set c.args.sides.now c.in-Some.column) c.halves.ensures.low in
    let put : c.put-2.new.sides ≡ set c.args.sides.now c.in-Some.column c.halves.result.1 =
    c.put-2.ensures ∙ ap (λ (l : List Bounds). set l c.in-Some.column c.halves.result.1) (c.in_ok-explore.ensures.sides ∙ c.put.ensures) ∙ set-set c.args.sides.now c.in-Some.column c.halves.result.0 c.halves.result.1 in
    let high_is : c.put-2.new.sides ≡ high_box c.args.sides.now c.in-Some.column (to_z w64 (of_z w64 c.middle-at.result)) =
    put ∙ ap (set c.args.sides.now c.in-Some.column) c.halves.ensures.high in
    let begun : Search = record { nodes = c.add-2.new.nodes; left = c.args.search.now.left - 1; best = c.args.search.now.best } in
    works_halves (value_by c.args.judge.now) (judged_by c.args.judge.now) c.args.sides.now c.args.search.now begun c.explore.new.search c.explore-2.new.search
    c.in-Some.column _ (sym c.in-Some.ensures) middle parted (omega arith) c.in_ok-add-2.ensures refl refl
    (subst (λ (l : List Bounds). Works (value_by c.args.judge.now) (judged_by c.args.judge.now) l begun c.explore.new.search) low_is c.in_ok-explore.ensures.works)
    (subst (λ (l : List Bounds). Works (value_by c.args.judge.now) (judged_by c.args.judge.now) l c.explore.new.search c.explore-2.new.search) high_is c.in_ok-explore-2.ensures.works)

pub returns-in_err-explore-clause-fault : goal.returns-in_err-explore-clause-fault
returns-in_err-explore-clause-fault t c =
    let p = err_from_is_err_and c.from_residual-in_err-explore.result c.from_residual-in_err-explore.ensures.1 in
    let fits : SFits w64 c.middle-at.result = search rules in
    let same : to_z w64 (of_z w64 c.middle-at.result) ≡ c.middle-at.result = to_z-of_z w64 c.middle-at.result fits in
    let middle = subst (λ (n : ℤ). IsMiddle (side_at c.args.sides.now c.in-Some.column) n) (sym same) c.middle-at.ensures.middle in
    let box : c.put.new.sides ≡ low_box c.args.sides.now c.in-Some.column (to_z w64 (of_z w64 c.middle-at.result)) =
    c.put.ensures ∙ ap (set c.args.sides.now c.in-Some.column) c.halves.ensures.low in
    rw (p.1, p.2) (fault_low (judged_by c.args.judge.now) c.args.search.now.left (c.args.search.now.left - 1) c.args.sides.now c.in-Some.column _ c.in_err-explore.field-0.0 (sym c.in-Some.ensures) middle (omega arith) refl
    (subst (λ (l : List Bounds). FaultsAs (judged_by c.args.judge.now) (c.args.search.now.left - 1) l c.in_err-explore.field-0.0) box c.in_err-explore.ensures.fault))

pub returns-in_err-explore-2-clause-fault : goal.returns-in_err-explore-2-clause-fault
returns-in_err-explore-2-clause-fault t c =
    let p = err_from_is_err_and c.from_residual-in_err-explore-2.result c.from_residual-in_err-explore-2.ensures.1 in
    let fits : SFits w64 c.middle-at.result = search rules in
    let same : to_z w64 (of_z w64 c.middle-at.result) ≡ c.middle-at.result = to_z-of_z w64 c.middle-at.result fits in
    let middle = subst (λ (n : ℤ). IsMiddle (side_at c.args.sides.now c.in-Some.column) n) (sym same) c.middle-at.ensures.middle in
    let low_is : c.put.new.sides ≡ low_box c.args.sides.now c.in-Some.column (to_z w64 (of_z w64 c.middle-at.result)) =
    c.put.ensures ∙ ap (set c.args.sides.now c.in-Some.column) c.halves.ensures.low in
    let put : c.put-2.new.sides ≡ set c.args.sides.now c.in-Some.column c.halves.result.1 =
    c.put-2.ensures ∙ ap (λ (l : List Bounds). set l c.in-Some.column c.halves.result.1) (c.in_ok-explore.ensures.sides ∙ c.put.ensures) ∙ set-set c.args.sides.now c.in-Some.column c.halves.result.0 c.halves.result.1 in
    let high_is : c.put-2.new.sides ≡ high_box c.args.sides.now c.in-Some.column (to_z w64 (of_z w64 c.middle-at.result)) =
    put ∙ ap (set c.args.sides.now c.in-Some.column) c.halves.ensures.high in
    let begun : Search = record { nodes = c.add-2.new.nodes; left = c.args.search.now.left - 1; best = c.args.search.now.best } in
    rw (p.1, p.2) (fault_high (judged_by c.args.judge.now) (value_by c.args.judge.now) c.args.search.now.left begun c.explore.new.search c.args.sides.now c.in-Some.column _ c.in_err-explore-2.field-0.0 (sym c.in-Some.ensures) middle (omega arith) refl
    (subst (λ (l : List Bounds). Works (value_by c.args.judge.now) (judged_by c.args.judge.now) l begun c.explore.new.search) low_is c.in_ok-explore.ensures.works)
    (subst (λ (l : List Bounds). FaultsAs (judged_by c.args.judge.now) c.explore.new.search.left l c.in_err-explore-2.field-0.0) high_is c.in_err-explore-2.ensures.fault))
