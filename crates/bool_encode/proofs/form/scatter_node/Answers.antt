use Rattle.std.proofs.Common.{◌≡◌, ◌∙◌, sym, ap, subst, ℤ, ◌*ℤ◌, to_z, of_z, w64, OnOk, List, ◌++◌, map}
use Rattle.std.proofs.Math.Facts.{to_z-of_z}
use Rattle.ip_rows.specs.declared.rows.Coef.{Coef}
use Rattle.prov_arena.specs.declared.part.Term.{Term}
use Rattle.prov_arena.specs.Formulas.{Formula, LinNode}
use Rattle.prov_arena.specs.Graphs.{at}
use Rattle.prov_fold.specs.Graphs.{node, size}
use Rattle.bool_encode.specs.Columns.{coef, column_at, columns_by}
use Rattle.bool_encode.specs.Scraps.{told, scaled}
use Rattle.bool_encode.proofs.LoopLemmas.{scaled_map, terms_below}
use Rattle.bool_encode.proofs.form.scatter_node.Goals as goal

pub add_terms-requires-clause-there : goal.add_terms-requires-clause-there
add_terms-requires-clause-there c = terms_below c.args.id (size c.args.fold.now) c.in-Lin.terms.now c.requires.there c.in-Lin.ensures.kids

pub returns-in-Lin : goal.returns-in-Lin
returns-in-Lin c =
    let g = c.args.fold.now in
    let stands = c.args.stands.now in
    let is : LinNode c.in-Lin.field-0 c.in-Lin.terms.now ≡ node c.args.fold.now c.args.id = c.in-Lin.ensures.part ∙ ap (λ (ps : List Formula). at ps c.args.id) c.prov.ensures in
    let same : map (λ (t : Term). coef (to_z w64 (of_z w64 c.args.factor) *ℤ t.factor) (column_at c.args.fold.now c.args.stands.now t.node)) c.in-Lin.terms.now ≡ scaled c.args.factor (columns_by c.args.fold.now c.args.stands.now c.args.id (node c.args.fold.now c.args.id)).terms =
    sym (scaled_map c.args.fold.now c.args.stands.now (to_z w64 (of_z w64 c.args.factor)) c.in-Lin.terms.now)
    ∙ ap (λ (k : ℤ). scaled k (columns_by c.args.fold.now c.args.stands.now c.args.id (LinNode c.in-Lin.field-0 c.in-Lin.terms.now)).terms) (to_z-of_z c.ranges.factor)
    ∙ ap (λ (m : Formula). scaled c.args.factor (columns_by c.args.fold.now c.args.stands.now c.args.id m).terms) is in
    subst (λ (ts : List Coef). OnOk c.add_terms.result (map told c.add_terms.new.scraps.items ≡ map told c.args.scraps.now.items ++ ts)) same c.add_terms.ensures
