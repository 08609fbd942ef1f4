-- Rows on the way: what is done, and what is still to come.
use Rattle.std.proofs.Common.{◌≡◌, ◌∙◌, sym, ap, subst, ℕ, ◌+◌, ◌-◌, ◌<◌, ◌≤◌, List, [], ◌∷◌, ◌++◌, flat_map, length, drop, get_or, arith, append_assoc, append-nil}
use Rattle.std.specs.List.{range_with_len}
use Rattle.std.specs.Prelude.{Ok, Err}
use Rattle.std.proofs.lemmas.List.{drop_all, drop_more}
use Rattle.ip_rows.specs.declared.rows.IpRow.{IpRow}
use Rattle.prov_fold.specs.Graphs.{Graph}
use Rattle.bool_encode.specs.declared.stand.Stand.{Stand}
use Rattle.bool_encode.specs.Forms.{Form}
use Rattle.root_encode.specs.Told.{Adds}
use Rattle.used_columns.proofs.RangeLemmas.{from, range_more}
use Rattle.program_rows.specs.declared.fault.ProgramFault.{ProgramFault}
use Rattle.program_rows.specs.declared.linear.LinearForm.{LinearForm}
use Rattle.program_rows.specs.Fair.{told, told_all}
use Rattle.program_rows.specs.Gathering.{Gathers}
use Rattle.program_rows.specs.Programs.{size_of_rows}
use Rattle.program_rows.proofs.Gathered.{adds_both, adds_none, err_more}

-- the rows of some of the forms were appended, and the rest are still to come
pub record IsOnWay (g : Graph) (stands : List Stand) (rest all : List Form) (before after : List IpRow) (total : ℕ) : Type 0 where
  pub done : List Form
  pub added : Adds g stands done before after
  pub parts : done ++ rest ≡ all
  pub counted : total ≡ size_of_rows after
  pub small : total ≤ 50000000

module _ (g : Graph) (stands : List Stand) where
  pub way_begin : (rest all : List Form) (before : List IpRow) (total : ℕ) → rest ≡ all → total ≡ size_of_rows before → total ≤ 50000000 → IsOnWay g stands rest all before before total
  way_begin rest all before total e counted small = record { done = []; added = adds_none g stands before; parts = e; counted = counted; small = small }

  pub way_more : (one rest left all : List Form) (before mid after : List IpRow) (total next : ℕ) → left ≡ one ++ rest → IsOnWay g stands left all before mid total → Gathers g stands one mid after (Ok next) → IsOnWay g stands rest all before after next
  way_more one rest left all before mid after total next e way h =
      record {
        done = way.done ++ one;
        added = adds_both g stands way.done one before mid after way.added h.0;
        parts = append_assoc way.done one rest ∙ ap (λ (l : List Form). way.done ++ l) (sym e) ∙ way.parts;
        counted = h.1;
        small = h.2;
      }

  pub way_err : (one rest left all : List Form) (before mid after new : List IpRow) (total : ℕ) (e : ProgramFault) → left ≡ one ++ rest → IsOnWay g stands left all before mid total → Gathers g stands one mid after (Err e) → Gathers g stands all before new (Err e)
  way_err one rest left all before mid after new total e is way h = err_more g stands way.done one rest all before mid after new e (ap (λ (l : List Form). way.done ++ l) (sym is) ∙ way.parts) way.added h

  pub way_end : (rest all : List Form) (before after : List IpRow) (total : ℕ) → rest ≡ [] → IsOnWay g stands rest all before after total → Gathers g stands all before after (Ok total)
  way_end rest all before after total none way =
      (subst (λ (fs : List Form). Adds g stands fs before after) (sym (append-nil way.done) ∙ ap (λ (l : List Form). way.done ++ l) (sym none) ∙ way.parts) way.added, way.counted, way.small)

pub from_begin : (f : ℕ → List Form) (n : ℕ) → from f n 0 ≡ flat_map f (range_with_len 0 n)
from_begin f n = let e : n - 0 ≡ n = omega arith in ap (λ (m : ℕ). flat_map f (range_with_len 0 m)) e

pub from_more : (f : ℕ → List Form) (n a : ℕ) → a < n → from f n a ≡ f a ++ from f n (a + 1)
from_more f n a lt = ap (λ (l : List ℕ). flat_map f l) (range_more a n lt)

pub from_end : (f : ℕ → List Form) (n a : ℕ) → n ≤ a → from f n a ≡ []
from_end f n a le = let e : n - a ≡ 0 = omega arith in ap (λ (m : ℕ). flat_map f (range_with_len a m)) e

pub left_more : (forms : List LinearForm) (i : ℕ) (f : LinearForm) → i < length forms → f ≡ get_or forms i f → told_all (drop i forms) ≡ (told f ∷ []) ++ told_all (drop (i + 1) forms)
left_more forms i f lt is = ap told_all (drop_more forms i f lt) ∙ ap (λ (x : LinearForm). told x ∷ told_all (drop (i + 1) forms)) (sym is)

pub left_end : (forms : List LinearForm) (i : ℕ) → length forms ≤ i → told_all (drop i forms) ≡ []
left_end forms i le = ap told_all (drop_all i forms le)
