use Rattle.std.proofs.Common.{◌<◌, ◌^◌, sym, subst, ℤ, pos, unsigned_abs, to_z, of_z, w64, All}
use Rattle.std.proofs.Math.Facts.{to_z-of_z}
use Rattle.prov_arena.specs.declared.part.Term.{Term}
use Rattle.prov_fold.specs.Rules.{scaled}
use Rattle.used_columns.proofs.SeedLemmas.{scaled_end, scaled_more, scaled_small}
use Rattle.used_columns.proofs.rows.add_scaled.Goals as goal

pub times-requires : goal.times-requires
times-requires c =
    let blank : Term = record { factor = pos 0; node = 0 } in
    let k : ℤ = to_z w64 (of_z w64 c.args.factor) in
    let small : All (λ (t : Term). unsigned_abs t.factor < 2 ^ 63) (scaled k c.args.more.now) = subst (λ f. All (λ (t : Term). unsigned_abs t.factor < 2 ^ 63) (scaled f c.args.more.now)) (sym (to_z-of_z c.ranges.factor)) c.requires in
    scaled_small (2 ^ 63) k c.args.more.now c.loop-term.term-index blank c.loop-term-test.true small

pub loop-term-preserved : goal.loop-term-preserved
loop-term-preserved c =
    let blank : Term = record { factor = pos 0; node = 0 } in
    let k : ℤ = to_z w64 (of_z w64 c.args.factor) in
    scaled_more k c.args.more.now c.loop-term.term-index blank c.times.result c.loop-term.terms.items c.push.new.self.items _ c.loop-term-test.true c.times.ensures.factor c.times.ensures.node c.in_ok-push.ensures.items c.loop-term.invariant

pub returns : goal.returns
returns c = scaled_end (to_z w64 (of_z w64 c.args.factor)) c.args.factor c.args.more.now c.loop-term.term-index c.loop-term.terms.items c.args.terms.now.items c.loop-term-test.false (to_z-of_z c.ranges.factor) c.loop-term.invariant
