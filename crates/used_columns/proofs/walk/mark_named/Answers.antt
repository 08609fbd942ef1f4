use Rattle.std.proofs.Common.{◌≡◌, ◌∙◌, sym, ap, refl}
use Rattle.prov_arena.specs.Formulas.{GuardNode, AbsNode, MinNode}
use Rattle.prov_arena.specs.Graphs.{at}
use Rattle.prov_fold.specs.Graphs.{node}
use Rattle.cmp_encode.specs.Tables.{aid_of}
use Rattle.used_columns.specs.Used.{made_of}
use Rattle.used_columns.specs.Marks.{marked}
use Rattle.used_columns.proofs.NameLemmas.{mark_two, mark_pairs_too}
use Rattle.used_columns.proofs.walk.mark_named.Goals as goal

pub returns-in-Guard : goal.returns-in-Guard
returns-in-Guard c =
    mark_two c.args.fold.now c.args.id (GuardNode c.in-Guard.truth c.in-Guard.number) c.in-Guard.truth c.in-Guard.number c.args.marks.now c.mark-in-Guard.new.marks c.mark-in-Guard-2.new.marks (c.in-Guard.ensures.part ∙ ap (λ parts. at parts c.args.id) c.prov.ensures) refl
    c.mark-in-Guard.ensures c.mark-in-Guard-2.ensures

pub returns-in_ok-sign-in-Abs : goal.returns-in_ok-sign-in-Abs
returns-in_ok-sign-in-Abs c =
    let g = c.args.fold.now in
    let m = AbsNode c.in-Abs.number in
    let a = aid_of g m in
    let is : m ≡ node g c.args.id = c.in-Abs.ensures.part ∙ ap (λ parts. at parts c.args.id) c.prov.ensures in
    let aid : c.in_ok-sign-in-Abs.sign ≡ a = c.in_ok-sign-in-Abs.ensures.aid ∙ ap (aid_of g) (sym is) in
    mark_two g c.args.id m c.in-Abs.number a c.args.marks.now c.mark-in-Abs.new.marks c.mark-in-Abs-2.new.marks is refl c.mark-in-Abs.ensures (c.mark-in-Abs-2.ensures ∙ ap (λ k. marked c.mark-in-Abs.new.marks (made_of k (node g k))) aid)

pub returns-in_ok-some-in-Min : goal.returns-in_ok-some-in-Min
returns-in_ok-some-in-Min c =
    let g = c.args.fold.now in
    let is : MinNode c.in-Min.pairs.now ≡ node g c.args.id = c.in-Min.ensures.part ∙ ap (λ parts. at parts c.args.id) c.prov.ensures in
    mark_pairs_too g c.args.id c.in-Min.pairs.now c.in_ok-some-in-Min.some c.args.marks.now c.mark-in-Min.new.marks c.mark_pairs.new.marks is c.in_ok-some-in-Min.ensures.aid c.mark-in-Min.ensures c.mark_pairs.ensures
