use Rattle.std.proofs.Common.{◌≡◌, ◌∙◌, ◌<◌, ◌≤◌, ◌+◌, sym, ap, refl, subst, length, get_or, arith, rules}
use Rattle.std.specs.Prelude.{slice_get, Some}
use Rattle.std.proofs.lemmas.Bool.{false≢true}
use Rattle.std.proofs.lemmas.Option.{slice_get_read}
use Rattle.world_def.specs.declared.views.Views.{Views}
use Rattle.world_def.specs.Views.{wanted}
use Rattle.world_def.proofs.Making.{Upto, not_missing, upto_more, made_last, put_told, put_done}
use Rattle.world_def.proofs.views.make_wanted.Goals as goal
use Rattle.world_def.proofs.views.make_wanted.Goals.{then-wanted-at+then-is_missing+in_ok-put_view, else-wanted-at, else-wanted-at-via-then-wanted-at+else-is_missing, else-wanted-at-via-else-wanted-at}

pub returns-in_err-put_view : goal.returns-in_err-put_view
returns-in_err-put_view c =
    let there = c.requires.there in let long = c.requires.long in
    let lt : c.loop-at.at < length c.args.wanted.now = omega arith in
    let at_view : c.loop-at.at < length c.args.query.now.views = omega (arith, lt, long, there) in
    let place : slice_get c.args.query.now.views c.loop-at.at ≡ Some c.index-as_slice-at.result =
    slice_get_read c.args.query.now.views (length c.args.query.now.views) c.loop-at.at c.index-as_slice-at.result refl at_view
    (c.index-as_slice-at.is ∙ ap (λ l. get_or l c.loop-at.at c.index-as_slice-at.result) c.as_slice.ensures) in
    search (
      rules,
      put_told c.args.query.now c.args.tables.now c.args.world.now c.requires.fit c.args.number c.loop-at.at (omega (arith, lt, long)) c.loop-at.views.made.items c.loop-at.invariant
          (sym (c.requires.marks c.loop-at.at lt) ∙ c.if-wanted-at.true) c.index-as_slice-at.result place c.put_view.new.views.made.items _ c.in_err-put_view.ensures,
    )

pub loop-at-preserved : goal.loop-at-preserved
loop-at-preserved c =
    let there = c.requires.there in let long = c.requires.long in let made_long = c.loop-at.invariant.made.long in
    let lt : c.loop-at.at < length c.args.wanted.now = omega arith in
    let le : c.loop-at.at ≤ c.args.number = omega (arith, lt, long) in
    let at_view : c.loop-at.at < length c.args.query.now.views = omega (arith, le, there) in
    let at_made : c.loop-at.at < length c.loop-at.views.made.items = omega (arith, at_view, made_long) in
    let these = wanted c.args.query.now.views c.args.number in
    let mark = c.requires.marks c.loop-at.at lt in
    let more = upto_more c.args.query.now c.args.tables.now c.args.world.now these c.loop-at.at c.loop-at.views.made.items c.loop-at.invariant in
    elim c.if-wanted-at.branch [
      | then-wanted-at+then-is_missing+in_ok-put_view w ↦
          subst (λ (v : Views). Upto c.args.query.now c.args.tables.now c.args.world.now these (c.loop-at.at + 1) v.made.items) (sym w.views-is)
          (put_done c.args.query.now c.args.tables.now c.args.world.now c.requires.fit c.args.number c.loop-at.at le c.loop-at.views.made.items c.loop-at.invariant
          (sym mark ∙ w.if-wanted-at.true) w.index-as_slice-at.result
          (slice_get_read c.args.query.now.views (length c.args.query.now.views) c.loop-at.at w.index-as_slice-at.result refl at_view
          (w.index-as_slice-at.is ∙ ap (λ l. get_or l c.loop-at.at w.index-as_slice-at.result) w.as_slice.ensures))
          w.put_view.new.views.made.items w.in_ok-put_view.ensures)
      | else-wanted-at w ↦
          subst (λ (v : Views). Upto c.args.query.now c.args.tables.now c.args.world.now these (c.loop-at.at + 1) v.made.items) (sym w.views-is)
          (elim w.else-wanted-at.branch [
            | else-wanted-at-via-then-wanted-at+else-is_missing v ↦ more (λ has. not_missing c.loop-at.views.made.items c.loop-at.at at_made (sym v.is_missing.ensures ∙ v.if-is_missing.false))
            | else-wanted-at-via-else-wanted-at v ↦ more (λ has. absurd (false≢true (sym v.if-wanted-at.false ∙ mark ∙ has)))
          ])
    ]

pub returns : goal.returns
returns c =
    let long = c.requires.long in
    (c.loop-at.invariant.made, made_last c.args.query.now c.args.tables.now c.args.world.now c.requires.fit c.args.number c.loop-at.views.made.items c.loop-at.at (omega (arith, long)) c.loop-at.invariant)
