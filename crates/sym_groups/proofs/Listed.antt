-- a row for each group: what code makes, group by group
use Rattle.std.proofs.Common.{◌≡◌, ◌≢◌, ◌∙◌, sym, ap, ap₂, subst, refl, ℕ, zero, suc, ◌+◌, ◌<◌, ◌≤◌, ◌==◌, ℤ, pos, Bool, true, false, cond, ◌||◌, List, [], ◌∷◌, ◌++◌, length, get_or, take, drop, map, flat_map, All, Result, Ok, Err, append_assoc, append-nil, arith}
use Rattle.std.specs.Prelude.{Option, Some, None}
use Rattle.std.specs.Borrow.{Bor}
use Rattle.std.specs.Cmp.{unsigned_Decides}
use Rattle.std.specs.Global.{Vec}
use Rattle.std.specs.List.{list_any}
use Rattle.std.specs.Option.{option_to_list}
use Rattle.std.specs.Ordering.{int_eq}
use Rattle.std.proofs.lemmas.List.{take_more, take_all, map_push, drop_more, drop_all}
use Rattle.std.proofs.lemmas.List.Elements.{All-nil, All-cons, All-append}
use Rattle.base_kit.specs.declared.value.Value.{Value}
use Rattle.prov_fold.specs.Graphs.{Graph, Keeps, HasTruth}
use Rattle.prov_fold.specs.Meanings.{Means, values_in}
use Rattle.prov_fold.specs.Rules as rule
use Rattle.prov_fold.specs.Values.{holds}
use Rattle.prov_fold.proofs.StandLemmas.{keeps_same, keeps_on}
use Rattle.prov_fold.proofs.PlaceLemmas.{means_by, told_by, value_zero, value_one}
use Rattle.sym_rows.specs.declared.fault.WalkFault.{WalkFault}
use Rattle.sym_rows.specs.declared.row.Cell.{Cell}
use Rattle.sym_rows.specs.declared.row.SymRow.{SymRow}
use Rattle.sym_rows.specs.Cells.{cell_in, row_in, rows_in, is_there, IsRowOf, AreRowsOf, IsCellOf}
use Rattle.sym_rows.specs.Walks.{Walked, Walk, gives, ◌>>=◌, by_rule, Makes}
use Rattle.sym_rows.proofs.Makes.{makes_gives, makes_is, makes_then, makes_stop, truth_kept, still}
use Rattle.sym_rows.proofs.Hypos.{rows_kept, rows_append}
use Rattle.sym_values.proofs.Numbering.{makes_as}
use Rattle.sym_groups.specs.Groups.{rows_of, presence_of, row_with, first_cells, group_presence}
use Rattle.sym_groups.specs.Meanings.{IsMaybeRowOf, IsRowWhere, IsPresenceWhere, there_or, some_there, AreRowsWhere}
use Rattle.sym_groups.specs.Together.{lent_rows}

-- ---- group by group

flat_push : {X Y : Type 0} (f : X → List Y) (xs : List X) (x : X) → flat_map f (xs ++ x ∷ []) ≡ flat_map f xs ++ f x
flat_push f [] x = append-nil (f x)
flat_push {X} {Y} f (y ∷ xs) x = ap (λ (l : List Y). f y ++ l) (flat_push f xs x) ∙ sym (append_assoc (f y) (flat_map f xs) (f x))

module _ (f : List SymRow → Walk (Option SymRow)) (groups : List (Vec (Bor SymRow))) where
  -- what is left of the groups, behind the rows that were made
  pub rows_left : ℕ → List SymRow → Walk (List SymRow)
  rows_left i made g = rows_of f (map lent_rows (drop i groups)) g >>= λ more g. gives (made ++ more) g

  all_left : (r : Walked (List SymRow)) → r ≡ (r >>= λ more g. gives ([] ++ more) g)
  all_left (Ok made) = refl
  all_left (Err e) = refl

  put : (some made more : List SymRow) (r : Walked (List SymRow)) → more ≡ made ++ some → (r >>= λ rest g. gives (more ++ rest) g) ≡ ((r >>= λ rest g. gives (some ++ rest) g) >>= λ rest g. gives (made ++ rest) g)
  put some made more (Ok rest) is = ap (λ (l : List SymRow). Ok (l, rest.1)) (ap (λ (l : List SymRow). l ++ rest.0) is ∙ append_assoc made some rest.0)
  put some made more (Err e) is = refl

  left_all : (g : Graph) → rows_left 0 [] g ≡ rows_of f (map lent_rows groups) g
  unfolding rows_left
  left_all g = sym (all_left (rows_of f (map lent_rows groups) g))

  left_step : (i : ℕ) (group : Vec (Bor SymRow)) (row : Option SymRow) (made more : List SymRow) (g next : Graph) (r : Walked (List SymRow)) → i < length groups → group ≡ get_or groups i group → f (lent_rows group) g ≡ Ok (row, next) → more ≡ made ++ option_to_list row
      → rows_left i made g ≡ r → rows_left (i + 1) more next ≡ r
  unfolding rows_left rows_of
  left_step i group row made more g next r lt is e m h = put (option_to_list row) made more (rows_of f (map lent_rows (drop (i + 1) groups)) next) m ∙ sym (rw (drop_more groups i group lt, ← is, e) refl) ∙ h

  left_err : (i : ℕ) (group : Vec (Bor SymRow)) (made : List SymRow) (e : WalkFault × Graph) (g : Graph) (r : Walked (List SymRow)) → i < length groups → group ≡ get_or groups i group → f (lent_rows group) g ≡ Err e → rows_left i made g ≡ r → r ≡ Err e
  unfolding rows_left rows_of
  left_err i group made e g r lt is h left = sym left ∙ rw (drop_more groups i group lt, ← is, h) refl

  left_end : (i : ℕ) (made : List SymRow) (g : Graph) (r : Walked (List SymRow)) → length groups ≤ i → rows_left i made g ≡ r → r ≡ Ok (made, g)
  unfolding rows_left rows_of
  left_end i made g r le left = sym left ∙ rw (drop_all i groups le) (ap (λ (l : List SymRow). Ok (l, g)) (append-nil made))

  module _ (there : List SymRow → (ℕ → ℤ) → Bool) (values : List SymRow → (ℕ → ℤ) → List Value) (g0 : Graph) where
    -- the rows of the first groups
    abbrev pub RowsSo : ℕ → List SymRow → List ℤ → (ℕ → ℤ) → Type 0
    RowsSo i made numbers v = rows_in v made ≡ flat_map (λ group. cond (there group v) (values group v ∷ []) []) (map lent_rows (take i groups))

    -- how far a loop has come
    pub record Going (i : ℕ) (made : List SymRow) (g : Graph) : Type 0 where
      pub follows : rows_left i made g ≡ rows_of f (map lent_rows groups) g0
      pub kept : Keeps g0 g
      pub good : AreRowsOf g made
      pub means : Means g (RowsSo i made)

    pub going_init : (made : List SymRow) → made ≡ [] → Going 0 made g0
    going_init made is =
        subst (λ (l : List SymRow). Going 0 l g0) (sym is)
        (record { follows = left_all g0; kept = keeps_same g0; good = All-nil (IsRowOf g0); means = means_by g0 (RowsSo 0 []) (λ h world later. refl) })

    rows_more : (i : ℕ) (group : Vec (Bor SymRow)) (row : Option SymRow) (made : List SymRow) (numbers : List ℤ) (v : ℕ → ℤ) → i < length groups → group ≡ get_or groups i group → RowsSo i made numbers v → IsRowWhere (there (lent_rows group)) (values (lent_rows group)) row numbers v
        → RowsSo (i + 1) (made ++ option_to_list row) numbers v
    rows_more i group row made numbers v lt is so one =
        let one_of : List SymRow → List (List Value) = λ rows. cond (there rows v) (values rows v ∷ []) [] in
        rows_append v made (option_to_list row)
        ∙ ap₂ (λ (a b : List (List Value)). a ++ b) so (one ∙ ap (λ (x : Vec (Bor SymRow)). one_of (lent_rows x)) is)
        ∙ sym (flat_push one_of (map lent_rows (take i groups)) (lent_rows (get_or groups i group)))
        ∙ ap (flat_map one_of) (sym (map_push lent_rows (take i groups) (get_or groups i group)) ∙ ap (map lent_rows) (sym (take_more groups i group lt)))

    pub going_step : (i : ℕ) (group : Vec (Bor SymRow)) (rows : List SymRow) (row : Option SymRow) (made more : List SymRow) (g next : Graph) → i < length groups → group ≡ get_or groups i group → rows ≡ lent_rows group → more ≡ made ++ option_to_list row
        → Makes (f rows g) IsMaybeRowOf (IsRowWhere (there rows) (values rows)) g (Ok row) next → Going i made g → Going (i + 1) more next
    going_step i group rows row made more g next lt is same m h going =
        let one : Makes (f (lent_rows group) g) IsMaybeRowOf (IsRowWhere (there (lent_rows group)) (values (lent_rows group))) g (Ok row) next = subst (λ (l : List SymRow). Makes (f l g) IsMaybeRowOf (IsRowWhere (there l) (values l)) g (Ok row) next) same h in
        record {
          follows = left_step i group row made more g next (rows_of f (map lent_rows groups) g0) lt is one.follows m going.follows;
          kept = keeps_on g0 g next going.kept one.kept;
          good = subst (AreRowsOf next) (sym m) (All-append (IsRowOf next) made (option_to_list row) (rows_kept g next made one.kept going.good) one.good);
          means = subst (λ (l : List SymRow). Means next (RowsSo (i + 1) l)) (sym m) (means_by next (RowsSo (i + 1) (made ++ option_to_list row)) (λ h world later. rows_more i group row made world (values_in h world) lt is (still g next h world (RowsSo i made) one.kept later going.means) (told_by next (IsRowWhere (there (lent_rows group)) (values (lent_rows group)) row) one.means h world later)));
        }

    pub going_err : (i : ℕ) (group : Vec (Bor SymRow)) (rows : List SymRow) (made : List SymRow) (g next : Graph) (e : WalkFault) → i < length groups → group ≡ get_or groups i group → rows ≡ lent_rows group
        → Makes (f rows g) IsMaybeRowOf (IsRowWhere (there rows) (values rows)) g (Err e) next → Going i made g → Makes (rows_of f (map lent_rows groups) g0) AreRowsOf (AreRowsWhere there values (map lent_rows groups)) g0 (Err e) next
    going_err i group rows made g next e lt is same h going =
        let one : Makes (f (lent_rows group) g) IsMaybeRowOf (IsRowWhere (there (lent_rows group)) (values (lent_rows group))) g (Err e) next = subst (λ (l : List SymRow). Makes (f l g) IsMaybeRowOf (IsRowWhere (there l) (values l)) g (Err e) next) same h in
        record { follows = λ ne. left_err i group made (e, next) g (rows_of f (map lent_rows groups) g0) lt is (one.follows ne) going.follows; kept = keeps_on g0 g next going.kept one.kept; good = tt; means = tt }

    pub going_memory : (i : ℕ) (made : List SymRow) (group : Vec (Bor SymRow)) (rows : List SymRow) (row : Option SymRow) (g next : Graph) → rows ≡ lent_rows group
        → Makes (f rows g) IsMaybeRowOf (IsRowWhere (there rows) (values rows)) g (Ok row) next → Going i made g → Keeps g0 next
    going_memory i made group rows row g next same h going = keeps_on g0 g next going.kept h.kept

    pub going_end : (i : ℕ) (made : List SymRow) (g : Graph) → length groups ≤ i → Going i made g → Makes (rows_of f (map lent_rows groups) g0) AreRowsOf (AreRowsWhere there values (map lent_rows groups)) g0 (Ok made) g
    going_end i made g le going = record {
      follows = left_end i made g (rows_of f (map lent_rows groups) g0) le going.follows;
      kept = going.kept;
      good = going.good;
      means = means_by g (AreRowsWhere there values (map lent_rows groups) made) (λ h world later. told_by g (RowsSo i made) going.means h world later ∙ ap (λ (l : List (Vec (Bor SymRow))). flat_map (λ group. cond (there group (values_in h world)) (values group (values_in h world) ∷ []) []) (map lent_rows l)) (take_all i groups le));
    }

-- ---- presences

any_presence : (v : ℕ → ℤ) (group : List SymRow) → list_any (holds v) (map (λ row. row.presence) group) ≡ list_any (is_there v) group
any_presence v [] = refl
any_presence v (row ∷ group) = ap (λ (b : Bool). is_there v row || b) (any_presence v group)

abbrev SomeHold : List ℕ → ℕ → List ℤ → (ℕ → ℤ) → Type 0
SomeHold truths id _ v = holds v id ≡ list_any (holds v) truths

pub presence_ok : (group : List SymRow) (truths : List ℕ) (g after : Graph) (r : Result ℕ WalkFault) → truths ≡ map (λ row. row.presence) group → Makes (by_rule (rule.or_of truths) g) HasTruth (SomeHold truths) g r after → Makes (presence_of group g) HasTruth (IsPresenceWhere (some_there group)) g r after
unfolding presence_of
presence_ok group truths g after r same h =
    makes_as HasTruth (SomeHold (map (λ row. row.presence) group)) (IsPresenceWhere (some_there group)) (by_rule (rule.or_of (map (λ row. row.presence) group)) g) (presence_of group g) g after r refl (λ id world v e. e ∙ any_presence v group)
    (subst (λ (ts : List ℕ). Makes (by_rule (rule.or_of ts) g) HasTruth (SomeHold ts) g r after) same h)

pub presence_sure : (group : List SymRow) (sure : Bool) (g : Graph) (id : ℕ) → sure ≡ true → id ≡ 1 → HasTruth g id → Makes (group_presence sure group g) HasTruth (IsPresenceWhere (there_or sure group)) g (Ok id) g
unfolding group_presence
presence_sure group sure g id is one truth =
    subst (λ (b : Bool). Makes (cond b (gives 1 g) (presence_of group g)) HasTruth (IsPresenceWhere (there_or b group)) g (Ok id) g) (sym is)
    (subst (λ (n : ℕ). Makes (gives n g) HasTruth (λ id numbers v. holds v id ≡ true) g (Ok id) g) one
    (makes_gives HasTruth (λ id numbers v. holds v id ≡ true) id g truth (λ h world later. ap (λ (n : ℕ). int_eq (values_in h world n) (pos 1)) one ∙ ap (λ (n : ℤ). int_eq n (pos 1)) (value_one h world later.fold))))

pub presence_some : (group : List SymRow) (sure : Bool) (g after : Graph) (r : Result ℕ WalkFault) → sure ≡ false → Makes (presence_of group g) HasTruth (IsPresenceWhere (some_there group)) g r after → Makes (group_presence sure group g) HasTruth (IsPresenceWhere (there_or sure group)) g r after
unfolding group_presence
presence_some group sure g after r is h = subst (λ (b : Bool). Makes (cond b (gives 1 g) (presence_of group g)) HasTruth (IsPresenceWhere (there_or b group)) g r after) (sym is) h

-- ---- one row

module _ (there : (ℕ → ℤ) → Bool) (values : (ℕ → ℤ) → List Value) (presence : Walk ℕ) (made : Walk (List Cell)) (walk : Walk (Option SymRow)) (g mid : Graph) (walk_is : walk g ≡ (presence g >>= λ id g. row_with id made g)) where
  abbrev RowMade : Result (Option SymRow) WalkFault → Graph → Type 0
  RowMade r after = Makes (walk g) IsMaybeRowOf (IsRowWhere there values) g r after

  abbrev with_cells : ℕ → Walk (Option SymRow)
  with_cells id g = row_with id made g

  abbrev as_row : ℕ → List Cell → Walk (Option SymRow)
  as_row id cells g = gives (Some (record { presence = id; cells = cells })) g

  nowhere : (id : ℕ) → id ≡ 0 → row_with id made mid ≡ gives None mid
  unfolding row_with
  nowhere id is = ap (λ (b : Bool). cond b (gives None mid) (made mid >>= as_row id)) ((unsigned_Decides id 0).1 is)

  somewhere : (id : ℕ) → id ≢ 0 → row_with id made mid ≡ (made mid >>= as_row id)
  unfolding row_with
  somewhere id ne = by_test (id == 0) refl
    where
      by_test : (b : Bool) → (id == 0) ≡ b → cond b (gives None mid) (made mid >>= as_row id) ≡ (made mid >>= as_row id)
      by_test true e = absurd (ne ((unsigned_Decides id 0).0 e))
      by_test false e = refl

  none_there : (b : Bool) (v : ℕ → ℤ) → b ≡ false → [] ≡ cond b (values v ∷ []) []
  none_there b v e = ap (λ (b : Bool). cond b (values v ∷ []) []) (sym e)

  pub row_none : (id : ℕ) → id ≡ 0 → Makes (presence g) HasTruth (IsPresenceWhere there) g (Ok id) mid → RowMade (Ok None) mid
  row_none id is h =
      makes_is IsMaybeRowOf (IsRowWhere there values) (presence g >>= with_cells) (walk g) g mid (Ok None) (sym walk_is)
      (makes_then HasTruth (IsPresenceWhere there) IsMaybeRowOf (IsRowWhere there values) (presence g) with_cells g mid id mid (Ok None) h
      (makes_is IsMaybeRowOf (IsRowWhere there values) (gives None mid) (row_with id made mid) mid mid (Ok None) (sym (nowhere id is))
      (makes_gives IsMaybeRowOf (IsRowWhere there values) None mid (All-nil (IsRowOf mid))
      (λ l world later. none_there (there (values_in l world)) (values_in l world) (sym (told_by mid (IsPresenceWhere there id) h.means l world later) ∙ ap (λ (n : ℕ). int_eq (values_in l world n) (pos 1)) is ∙ ap (λ (n : ℤ). int_eq n (pos 1)) (value_zero l world later.fold))))))

  abbrev AreCells : Graph → List Cell → Type 0
  AreCells g cells = All (IsCellOf g) cells

  abbrev AreValues : List Cell → List ℤ → (ℕ → ℤ) → Type 0
  AreValues cells numbers v = map (cell_in v) cells ≡ values v

  row_there : (id : ℕ) (cells : List Cell) (v : ℕ → ℤ) → holds v id ≡ there v → map (cell_in v) cells ≡ values v → rows_in v (record { presence = id; cells = cells } ∷ []) ≡ cond (there v) (values v ∷ []) []
  row_there id cells v e same = ap (λ (b : Bool). map (row_in v) (cond b (record { presence = id; cells = cells } ∷ []) [])) e ∙ by_there (there v)
    where
      by_there : (b : Bool) → map (row_in v) (cond b (record { presence = id; cells = cells } ∷ []) []) ≡ cond b (values v ∷ []) []
      by_there true = ap (λ (l : List Value). l ∷ []) same
      by_there false = refl

  pub row_some : (id : ℕ) (cells : List Cell) (after : Graph) → id ≢ 0 → Makes (presence g) HasTruth (IsPresenceWhere there) g (Ok id) mid → Makes (made mid) AreCells AreValues mid (Ok cells) after → RowMade (Ok (Some (record { presence = id; cells = cells }))) after
  row_some id cells after ne h k =
      let row : SymRow = record { presence = id; cells = cells } in
      makes_is IsMaybeRowOf (IsRowWhere there values) (presence g >>= with_cells) (walk g) g after (Ok (Some row)) (sym walk_is)
      (makes_then HasTruth (IsPresenceWhere there) IsMaybeRowOf (IsRowWhere there values) (presence g) with_cells g mid id after (Ok (Some row)) h
      (makes_is IsMaybeRowOf (IsRowWhere there values) (made mid >>= as_row id) (row_with id made mid) mid after (Ok (Some row)) (sym (somewhere id ne))
      (makes_then AreCells AreValues IsMaybeRowOf (IsRowWhere there values) (made mid) (as_row id) mid after cells after (Ok (Some row)) k
      (makes_gives IsMaybeRowOf (IsRowWhere there values) (Some row) after (All-cons (IsRowOf after) row [] (record { presence = truth_kept mid after id k.kept h.good; possible = ne; cells = k.good }) (All-nil (IsRowOf after)))
      (λ l world later. row_there id cells (values_in l world) (still mid after l world (IsPresenceWhere there id) k.kept later h.means) (told_by after (AreValues cells) k.means l world later))))))

  pub row_stop : (e : WalkFault) → Makes (presence g) HasTruth (IsPresenceWhere there) g (Err e) mid → RowMade (Err e) mid
  row_stop e h =
      makes_is IsMaybeRowOf (IsRowWhere there values) (presence g >>= with_cells) (walk g) g mid (Err e) (sym walk_is)
      (makes_stop HasTruth (IsPresenceWhere there) IsMaybeRowOf (IsRowWhere there values) (presence g) with_cells g mid e h)

  pub row_err : (id : ℕ) (e : WalkFault) (after : Graph) → id ≢ 0 → Makes (presence g) HasTruth (IsPresenceWhere there) g (Ok id) mid → Makes (made mid) AreCells AreValues mid (Err e) after → RowMade (Err e) after
  row_err id e after ne h k =
      makes_is IsMaybeRowOf (IsRowWhere there values) (presence g >>= with_cells) (walk g) g after (Err e) (sym walk_is)
      (makes_then HasTruth (IsPresenceWhere there) IsMaybeRowOf (IsRowWhere there values) (presence g) with_cells g mid id after (Err e) h
      (makes_is IsMaybeRowOf (IsRowWhere there values) (made mid >>= as_row id) (row_with id made mid) mid after (Err e) (sym (somewhere id ne))
      (makes_stop AreCells AreValues IsMaybeRowOf (IsRowWhere there values) (made mid) (as_row id) mid after e k)))

-- the cells of the first row
pub firsts_of : (g : Graph) (group : List SymRow) → AreRowsOf g group → All (IsCellOf g) (first_cells group)
unfolding first_cells
firsts_of g [] are = All-nil (IsCellOf g)
firsts_of g (row ∷ group) are = (are 0 row (omega arith)).cells

pub firsts_made : (group : List SymRow) (cells : List Cell) (g mid : Graph) → cells ≡ first_cells group → AreRowsOf g group → Keeps g mid
    → Makes (gives (first_cells group) mid) (λ g cells. All (IsCellOf g) cells) (λ cells numbers v. map (cell_in v) cells ≡ map (cell_in v) (first_cells group)) mid (Ok cells) mid
firsts_made group cells g mid is are kept =
    subst (λ (l : List Cell). Makes (gives (first_cells group) mid) (λ g cells. All (IsCellOf g) cells) (λ cells numbers v. map (cell_in v) cells ≡ map (cell_in v) (first_cells group)) mid (Ok l) mid) (sym is)
    (makes_gives (λ g cells. All (IsCellOf g) cells) (λ cells numbers v. map (cell_in v) cells ≡ map (cell_in v) (first_cells group)) (first_cells group) mid (firsts_of mid group (rows_kept g mid group kept are)) (λ h world later. refl))

pub firsts_none : (group : List (Bor SymRow)) (made : List Cell) → length group < 1 → made ≡ [] → made ≡ first_cells (map (λ row. row.now) group)
unfolding first_cells
firsts_none [] made lt e = e
firsts_none (row ∷ group) made lt e = absurd (omega (arith, lt))

pub firsts_are : (group : List (Bor SymRow)) (row : Bor SymRow) → 1 ≤ length group → row ≡ get_or group 0 row → row.now.cells ≡ first_cells (map (λ row. row.now) group)
unfolding first_cells
firsts_are [] row le is = absurd (omega (arith, le))
firsts_are (one ∷ group) row le is = ap (λ (r : Bor SymRow). r.now.cells) is

-- a group's rows are of the list, also when it has grown
at_mapped : (P : List SymRow → Type 0) (groups : List (Vec (Bor SymRow))) (i : ℕ) (d : Vec (Bor SymRow)) → i < length groups → All P (map lent_rows groups) → P (lent_rows (get_or groups i d))
at_mapped P [] i d lt are = absurd (omega (arith, lt))
at_mapped P (group ∷ groups) zero d lt are = are 0 (lent_rows group) (omega arith)
at_mapped P (group ∷ groups) (suc i) d lt are = at_mapped P groups i d (omega (arith, lt)) (λ k e less. are (suc k) e (omega (arith, less)))

pub group_kept : (g h : Graph) (groups : List (Vec (Bor SymRow))) (i : ℕ) (group : Vec (Bor SymRow)) (rows : List SymRow) → i < length groups → group ≡ get_or groups i group → rows ≡ lent_rows group → Keeps g h → All (AreRowsOf g) (map lent_rows groups) → AreRowsOf h rows
group_kept g h groups i group rows lt is same kept are =
    subst (AreRowsOf h) (sym (same ∙ ap lent_rows is)) (rows_kept g h (lent_rows (get_or groups i group)) kept (at_mapped (AreRowsOf g) groups i group lt are))

pub presence_same : (sure sure' : Bool) (group : List SymRow) (g after : Graph) (r : Result ℕ WalkFault) → sure ≡ sure' → Makes (group_presence sure group g) HasTruth (IsPresenceWhere (there_or sure group)) g r after → Makes (group_presence sure' group g) HasTruth (IsPresenceWhere (there_or sure' group)) g r after
presence_same sure sure' group g after r same h = subst (λ (b : Bool). Makes (group_presence b group g) HasTruth (IsPresenceWhere (there_or b group)) g r after) same h
