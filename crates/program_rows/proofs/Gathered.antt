-- Rows that are gathered in turn, and their size.
use Rattle.std.proofs.Common.{◌≡◌, ◌∙◌, sym, ap, subst, refl, ℕ, ◌+◌, ◌<◌, List, [], ◌∷◌, ◌++◌, length, arith, append_assoc, append-nil, length-append}
use Rattle.std.specs.Prelude.{Result, Ok, Err}
use Rattle.std.proofs.lemmas.List.Sums.{sum_by-append}
use Rattle.ip_rows.specs.declared.rows.IpRow.{IpRow}
use Rattle.prov_fold.specs.Graphs.{Graph}
use Rattle.bool_encode.specs.declared.stand.Stand.{Stand}
use Rattle.bool_encode.specs.Forms.{Form}
use Rattle.bool_encode.specs.Rows.{AreRows}
use Rattle.root_encode.specs.Told.{Adds}
use Rattle.program_rows.specs.declared.fault.ProgramFault.{ProgramFault}
use Rattle.program_rows.specs.declared.fault.ProgramFault.TheVariants as fault
use Rattle.program_rows.specs.Gathering.{AddsRows, Gathers, GathersAll, PassesSize}
use Rattle.program_rows.specs.Programs.{size_of_rows}

pub size_append : (xs ys : List IpRow) → size_of_rows (xs ++ ys) ≡ size_of_rows xs + size_of_rows ys
size_append xs ys =
    let long = length-append xs ys in
    let terms = sum_by-append (λ (row : IpRow). length row.terms) xs ys in
    omega (arith, long, terms)

pub rows_both : (g : Graph) (stands : List Stand) (xs ys : List Form) (made more : List IpRow) → AreRows g stands xs made → AreRows g stands ys more → AreRows g stands (xs ++ ys) (made ++ more)
rows_both g stands [] ys [] more h k = k
rows_both g stands [] ys (row ∷ made) more h k = absurd h
rows_both g stands (x ∷ xs) ys [] more h k = absurd h
rows_both g stands (x ∷ xs) ys (row ∷ made) more h k = (h.0, rows_both g stands xs ys made more h.1 k)

module _ (g : Graph) (stands : List Stand) where
  -- one lot of rows
  pub gathers_one : (forms : List Form) (more before after : List IpRow) (r : Result ℕ ProgramFault) → AreRows g stands forms more → AddsRows more before after r → Gathers g stands forms before after r
  gathers_one forms more before after (Ok total) are h = (record { made = more; all = h.0; are = are }, h.1, h.2)
  gathers_one forms more before after (Err fault.TooLarge) are h = record { before = forms; behind = []; parts = append-nil forms; made = more; are = are; large = h }
  gathers_one forms more before after (Err (fault.TooManyColumns count)) are h = h
  gathers_one forms more before after (Err fault.Memory) are h = tt

  pub adds_none : (before : List IpRow) → Adds g stands [] before before
  adds_none before = record { made = []; all = sym (append-nil before); are = tt }

  pub adds_both : (xs ys : List Form) (before mid after : List IpRow) → Adds g stands xs before mid → Adds g stands ys mid after → Adds g stands (xs ++ ys) before after
  adds_both xs ys before mid after a b =
      record {
        made = a.made ++ b.made;
        all = b.all ∙ ap (λ (l : List IpRow). l ++ b.made) a.all ∙ append_assoc before a.made b.made;
        are = rows_both g stands xs ys a.made b.made a.are b.are;
      }

  passes_more : (xs ys zs all : List Form) (before mid : List IpRow) → xs ++ (ys ++ zs) ≡ all → Adds g stands xs before mid → PassesSize g stands ys mid → PassesSize g stands all before
  passes_more xs ys zs all before mid whole a p =
      record {
        before = xs ++ p.before;
        behind = p.behind ++ zs;
        parts = append_assoc xs p.before (p.behind ++ zs) ∙ ap (λ (l : List Form). xs ++ l) (sym (append_assoc p.before p.behind zs) ∙ ap (λ (l : List Form). l ++ zs) p.parts) ∙ whole;
        made = a.made ++ p.made;
        are = rows_both g stands xs p.before a.made p.made a.are p.are;
        large = subst (λ (l : List IpRow). 50000000 < size_of_rows l) (ap (λ (l : List IpRow). l ++ p.made) a.all ∙ append_assoc before a.made p.made) p.large;
      }

  -- a fault behind rows that were gathered before
  pub err_more : (xs ys zs all : List Form) (before mid after new : List IpRow) (e : ProgramFault) → xs ++ (ys ++ zs) ≡ all → Adds g stands xs before mid → Gathers g stands ys mid after (Err e) → Gathers g stands all before new (Err e)
  err_more xs ys zs all before mid after new fault.TooLarge whole a h = passes_more xs ys zs all before mid whole a h
  err_more xs ys zs all before mid after new (fault.TooManyColumns count) whole a h = h
  err_more xs ys zs all before mid after new fault.Memory whole a h = tt

  pub all_err : (forms : List Form) (cells after : List IpRow) (e : ProgramFault) → Gathers g stands forms cells after (Err e) → GathersAll g stands forms cells (Err e)
  all_err forms cells after fault.TooLarge h = h
  all_err forms cells after (fault.TooManyColumns count) h = h
  all_err forms cells after fault.Memory h = h

  -- behind the rows of cells
  pub nodes_err : (nodes roots : List Form) (cells start mid after : List IpRow) (e : ProgramFault) → start ≡ [] → mid ≡ start ++ cells → Gathers g stands nodes mid after (Err e) → GathersAll g stands (nodes ++ roots) cells (Err e)
  nodes_err nodes roots cells start mid after e none is h =
      let at : mid ≡ cells = is ∙ ap (λ (l : List IpRow). l ++ cells) none in
      all_err (nodes ++ roots) cells after e
      (err_more [] nodes roots (nodes ++ roots) cells cells after after e refl (adds_none cells) (subst (λ (l : List IpRow). Gathers g stands nodes l after (Err e)) at h))

  pub roots_err : (nodes roots : List Form) (cells start mid behind after : List IpRow) (e : ProgramFault) → start ≡ [] → mid ≡ start ++ cells → Adds g stands nodes mid behind → Gathers g stands roots behind after (Err e)
      → GathersAll g stands (nodes ++ roots) cells (Err e)
  roots_err nodes roots cells start mid behind after e none is a h =
      let at : mid ≡ cells = is ∙ ap (λ (l : List IpRow). l ++ cells) none in
      all_err (nodes ++ roots) cells after e
      (err_more nodes roots [] (nodes ++ roots) cells behind after after e (ap (λ (l : List Form). nodes ++ l) (append-nil roots)) (subst (λ (l : List IpRow). Adds g stands nodes l behind) at a) h)

  pub all_ok : (nodes roots : List Form) (cells start mid behind after : List IpRow) → start ≡ [] → mid ≡ start ++ cells → Adds g stands nodes mid behind → Adds g stands roots behind after → Adds g stands (nodes ++ roots) cells after
  all_ok nodes roots cells start mid behind after none is a b =
      let at : mid ≡ cells = is ∙ ap (λ (l : List IpRow). l ++ cells) none in
      adds_both nodes roots cells behind after (subst (λ (l : List IpRow). Adds g stands nodes l behind) at a) b
