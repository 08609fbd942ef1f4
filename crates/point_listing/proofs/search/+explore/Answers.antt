use Rattle.std.proofs.Common.{◌≡◌, ◌≤ℤ◌, ◌<ℤ◌, List, ap, sym, ◌∙◌, refl, set, length, ℕ, ℤ, ◌-◌, ◌≤◌, arith, rules, subst, take}
use Rattle.std.proofs.lemmas.List.{set-set, set-get_or}
use Rattle.std.proofs.lemmas.Int.{to_z-of_z}
use mir.Val.{to_z, of_z, SFits}
use mir.Syntax.{w64}
use Rattle.ip_rows.specs.declared.Bounds.{Bounds}
use Rattle.branch_tree.specs.Boxes.{side_at, low_box, high_box, IsParted}
use Rattle.branch_tree.specs.Listing.{AreFixed, IsFirstOpen, IsMiddle}
use Rattle.branch_tree.proofs.Columns.{no_side}
use Rattle.whole_points.specs.Matched.{world_count}
use Rattle.program_leaves.specs.Leaves.{IsInside, root_of, worlds_in}
use Rattle.program_leaves.proofs.Insides.{inside_high, inside_low, inside_sides}
use Rattle.program_leaves.proofs.Points.{sides_long, worlds_few}
use Rattle.point_listing.specs.declared.search.Search.{Search}
use Rattle.point_listing.specs.Works.{Works}
use Rattle.point_listing.proofs.Worlds.{column_there, fixed_first, high_width, low_width, parted_at, two_there, worlds_there}
use Rattle.point_listing.proofs.Steps.{works_open, works_world, works_halves}
use Rattle.point_listing.proofs.search.+explore.Goals as goal

pub returns-then-search-eq0-clause-works : goal.returns-then-search-eq0-clause-works
returns-then-search-eq0-clause-works t c = works_open c.args.program.now c.args.fold.now c.args.map.now.stands c.args.sides.now c.args.search.now _ c.if-search-eq0.true c.in_ok-add.ensures refl refl

pub first_open-requires : goal.first_open-requires
first_open-requires t c =
    let few : c.args.worlds ≤ length c.args.sides.now = worlds_there c.args.program.now c.args.fold.now c.args.map.now.stands c.args.sides.now c.requires.matched c.requires.inside c.args.worlds c.requires.worlds in
    few

pub returns-in-None-clause-works : goal.returns-in-None-clause-works
returns-in-None-clause-works t c =
    let fixed : AreFixed (worlds_in c.args.map.now.stands c.args.sides.now) = subst (λ (n : ℕ). AreFixed (take n c.args.sides.now)) c.requires.worlds (fixed_first c.args.worlds c.args.sides.now (inside_sides (root_of c.args.program.now) c.args.sides.now c.requires.inside) (sym c.in-None.ensures)) in
    works_world c.args.program.now c.args.fold.now c.args.map.now.stands c.args.sides.now c.args.search.now c.close.new.search fixed (omega arith) c.in_ok-close-in-None.ensures.nodes c.in_ok-close-in-None.ensures.left c.in_ok-close-in-None.ensures.best

pub overflow_cast-split : goal.overflow_cast-split
overflow_cast-split t c =
    let few : c.args.worlds ≤ length c.args.sides.now = worlds_there c.args.program.now c.args.fold.now c.args.map.now.stands c.args.sides.now c.requires.matched c.requires.inside c.args.worlds c.requires.worlds in
    let there = column_there c.args.worlds c.args.sides.now few c.in-Some.column (sym c.in-Some.ensures) in
    let long = sides_long c.args.program.now c.args.fold.now c.args.map.now.stands c.args.sides.now c.requires.matched c.requires.inside in
    let all = c.requires.measured.columns in
    omega (arith, there, long, all)

pub middle-at-requires : goal.middle-at-requires
middle-at-requires t c =
    let few : c.args.worlds ≤ length c.args.sides.now = worlds_there c.args.program.now c.args.fold.now c.args.map.now.stands c.args.sides.now c.requires.matched c.requires.inside c.args.worlds c.requires.worlds in
    two_there c.args.worlds c.args.sides.now few c.in-Some.column (sym c.in-Some.ensures)

pub explore-requires : goal.explore-requires
explore-requires t c =
    let few : c.args.worlds ≤ length c.args.sides.now = worlds_there c.args.program.now c.args.fold.now c.args.map.now.stands c.args.sides.now c.requires.matched c.requires.inside c.args.worlds c.requires.worlds in
    let fits : SFits w64 c.middle-at.result = search rules in
    let same : to_z w64 (of_z w64 c.middle-at.result) ≡ c.middle-at.result = to_z-of_z w64 c.middle-at.result fits in
    let parted : IsParted c.args.sides.now c.in-Some.column (to_z w64 (of_z w64 c.middle-at.result)) = parted_at c.args.worlds c.args.sides.now few c.in-Some.column (sym c.in-Some.ensures) _ (subst (λ (n : ℤ). (side_at c.args.sides.now c.in-Some.column).lo ≤ℤ n) (sym same) c.middle-at.ensures.low) (subst (λ (n : ℤ). n <ℤ (side_at c.args.sides.now c.in-Some.column).hi) (sym same) c.middle-at.ensures.high) in
    let low_is : c.put.new.sides ≡ low_box c.args.sides.now c.in-Some.column (to_z w64 (of_z w64 c.middle-at.result)) = c.put.ensures ∙ ap (set c.args.sides.now c.in-Some.column) c.halves.ensures.low in (
      omega (arith, c.decreases, low_width c.args.sides.now c.in-Some.column _ c.halves.result.0 c.put.new.sides parted c.halves.ensures.low c.put.ensures),
      (c.requires.formed, (c.requires.measured, (c.requires.matched, (c.requires.worlds, subst (IsInside (root_of c.args.program.now)) (sym low_is) (inside_low (root_of c.args.program.now) c.args.sides.now c.in-Some.column _ c.requires.inside parted))))),
    )

pub explore-requires-2 : goal.explore-requires-2
explore-requires-2 t c =
    let few : c.args.worlds ≤ length c.args.sides.now = worlds_there c.args.program.now c.args.fold.now c.args.map.now.stands c.args.sides.now c.requires.matched c.requires.inside c.args.worlds c.requires.worlds in
    let fits : SFits w64 c.middle-at.result = search rules in
    let same : to_z w64 (of_z w64 c.middle-at.result) ≡ c.middle-at.result = to_z-of_z w64 c.middle-at.result fits in
    let parted : IsParted c.args.sides.now c.in-Some.column (to_z w64 (of_z w64 c.middle-at.result)) = parted_at c.args.worlds c.args.sides.now few c.in-Some.column (sym c.in-Some.ensures) _ (subst (λ (n : ℤ). (side_at c.args.sides.now c.in-Some.column).lo ≤ℤ n) (sym same) c.middle-at.ensures.low) (subst (λ (n : ℤ). n <ℤ (side_at c.args.sides.now c.in-Some.column).hi) (sym same) c.middle-at.ensures.high) in
    let put : c.put-2.new.sides ≡ set c.args.sides.now c.in-Some.column c.halves.result.1 =
    c.put-2.ensures ∙ ap (λ (l : List Bounds). set l c.in-Some.column c.halves.result.1) (c.in_ok-explore.ensures.sides ∙ c.put.ensures) ∙ set-set c.args.sides.now c.in-Some.column c.halves.result.0 c.halves.result.1 in
    let high_is : c.put-2.new.sides ≡ high_box c.args.sides.now c.in-Some.column (to_z w64 (of_z w64 c.middle-at.result)) = put ∙ ap (set c.args.sides.now c.in-Some.column) c.halves.ensures.high in (
      omega (arith, c.decreases, high_width c.args.sides.now c.in-Some.column _ c.halves.result.1 c.put-2.new.sides parted c.halves.ensures.high put),
      (c.requires.formed, (c.requires.measured, (c.requires.matched, (c.requires.worlds, subst (IsInside (root_of c.args.program.now)) (sym high_is) (inside_high (root_of c.args.program.now) c.args.sides.now c.in-Some.column _ c.requires.inside parted))))),
    )

pub returns-clause-sides : goal.returns-clause-sides
returns-clause-sides t c =
    let put : c.put-2.new.sides ≡ set c.args.sides.now c.in-Some.column c.halves.result.1 =
    c.put-2.ensures ∙ ap (λ (l : List Bounds). set l c.in-Some.column c.halves.result.1) (c.in_ok-explore.ensures.sides ∙ c.put.ensures) ∙ set-set c.args.sides.now c.in-Some.column c.halves.result.0 c.halves.result.1 in
    c.put-3.ensures ∙ ap (λ (l : List Bounds). set l c.in-Some.column (side_at c.args.sides.now c.in-Some.column)) (c.in_ok-explore-2.ensures.sides ∙ put)
    ∙ set-set c.args.sides.now c.in-Some.column c.halves.result.1 (side_at c.args.sides.now c.in-Some.column)
    ∙ set-get_or c.args.sides.now c.in-Some.column no_side

pub returns-clause-works : goal.returns-clause-works
returns-clause-works t c =
    let count : world_count c.args.map.now.stands ≤ length c.args.sides.now = worlds_few c.args.program.now c.args.fold.now c.args.map.now.stands c.args.sides.now c.requires.matched c.requires.inside in
    let few : c.args.worlds ≤ length c.args.sides.now = worlds_there c.args.program.now c.args.fold.now c.args.map.now.stands c.args.sides.now c.requires.matched c.requires.inside c.args.worlds c.requires.worlds in
    let fits : SFits w64 c.middle-at.result = search rules in
    let same : to_z w64 (of_z w64 c.middle-at.result) ≡ c.middle-at.result = to_z-of_z w64 c.middle-at.result fits in
    let parted : IsParted c.args.sides.now c.in-Some.column (to_z w64 (of_z w64 c.middle-at.result)) = parted_at c.args.worlds c.args.sides.now few c.in-Some.column (sym c.in-Some.ensures) _ (subst (λ (n : ℤ). (side_at c.args.sides.now c.in-Some.column).lo ≤ℤ n) (sym same) c.middle-at.ensures.low) (subst (λ (n : ℤ). n <ℤ (side_at c.args.sides.now c.in-Some.column).hi) (sym same) c.middle-at.ensures.high) in
    let first : IsFirstOpen (worlds_in c.args.map.now.stands c.args.sides.now) c.in-Some.column = subst (λ (n : ℕ). IsFirstOpen (take n c.args.sides.now) c.in-Some.column) c.requires.worlds (sym c.in-Some.ensures) in
    let middle = subst (λ (n : ℤ). IsMiddle (side_at c.args.sides.now c.in-Some.column) n) (sym same) c.middle-at.ensures.middle in
    let low_is : c.put.new.sides ≡ low_box c.args.sides.now c.in-Some.column (to_z w64 (of_z w64 c.middle-at.result)) = c.put.ensures ∙ ap (set c.args.sides.now c.in-Some.column) c.halves.ensures.low in
    let put : c.put-2.new.sides ≡ set c.args.sides.now c.in-Some.column c.halves.result.1 =
    c.put-2.ensures ∙ ap (λ (l : List Bounds). set l c.in-Some.column c.halves.result.1) (c.in_ok-explore.ensures.sides ∙ c.put.ensures) ∙ set-set c.args.sides.now c.in-Some.column c.halves.result.0 c.halves.result.1 in
    let high_is : c.put-2.new.sides ≡ high_box c.args.sides.now c.in-Some.column (to_z w64 (of_z w64 c.middle-at.result)) = put ∙ ap (set c.args.sides.now c.in-Some.column) c.halves.ensures.high in
    let begun : Search = record { nodes = c.add-2.new.nodes; left = c.args.search.now.left - 1; best = c.args.search.now.best } in
    works_halves c.args.program.now c.args.fold.now c.args.map.now.stands c.args.sides.now c.args.search.now begun c.explore.new.search c.explore-2.new.search
    c.in-Some.column _ count first middle parted (omega arith) c.in_ok-add-2.ensures refl refl
    (subst (λ (l : List Bounds). Works c.args.program.now c.args.fold.now c.args.map.now.stands l begun c.explore.new.search) low_is c.in_ok-explore.ensures.works)
    (subst (λ (l : List Bounds). Works c.args.program.now c.args.fold.now c.args.map.now.stands l c.explore.new.search c.explore-2.new.search) high_is c.in_ok-explore-2.ensures.works)
