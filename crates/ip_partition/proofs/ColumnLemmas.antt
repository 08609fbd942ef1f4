-- Spreading a part over the rows of one column, and over one column after another.
use Rattle.std.proofs.Common.{◌≡◌, ◌⊎◌, inl, inr, ◌+◌, ◌<◌, ◌≤◌, ℕ, Bool, true, false, List, [], ◌∷◌, length, get_or, set, refl, sym, ap, ◌∙◌, subst, arith}
use Rattle.std.specs.List.{Contains}
use Rattle.std.proofs.lemmas.Bool.{cases_eq}
use Rattle.std.proofs.lemmas.List.{get_or-set_same, get_or-set_other}
use Rattle.cross_links.specs.Layout.{Layout, live_rows}
use Rattle.ip_partition.specs.Linked.{IsLive}
use Rattle.ip_partition.specs.Spreading.{part_of, is_seen, HasRoom, IsSpread, Keeps, SpreadsRow, SpreadsOn, SpreadsColumn}
use Rattle.ip_partition.proofs.Among.{none_in, at_head, behind, head_or_behind, in_column, from_column}
use Rattle.ip_partition.proofs.RowLemmas.{row_seen, labelled_within}

-- the same ends of live entries
pub room_same : (grid : Layout) (columns rows columns' rows' : ℕ) → columns' ≡ columns → rows' ≡ rows → HasRoom grid columns rows → HasRoom grid columns' rows'
room_same grid columns rows columns' rows' one two room =
    subst (λ n. HasRoom grid n rows') (sym one) (subst (λ n. HasRoom grid columns n) (sym two) room)

pub Keeps-trans : (a b c : List ℕ) → Keeps a b → Keeps b c → Keeps a c
Keeps-trans a b c one two x above = let same = one x above in two x (omega (arith, same)) ∙ one x above

-- before any row of the column
pub column_begins : (grid : Layout) (part at column : ℕ) (labels : List ℕ) (seen : List Bool) (reached rest : List ℕ)
    → IsSpread grid part at labels seen reached → at < length reached → column ≡ get_or reached at 0 → rest ≡ live_rows grid column
    → SpreadsColumn grid part at column labels labels seen reached rest
column_begins grid part at column labels seen reached rest state lt here is = record {
  spread = state;
  kept = λ c above. refl;
  within = lt;
  here = sym here;
  covers = λ row live. inr (subst (λ (xs : List ℕ). Contains xs row) (sym is) (in_column grid row column live));
  rows = λ row h. from_column grid row column (subst (λ (xs : List ℕ). Contains xs row) is h);
}

module _ (grid : Layout) (part at column : ℕ) (first labels : List ℕ) (seen : List Bool) (reached before rest : List ℕ) (row : ℕ) (is : before ≡ row ∷ rest)
    (state : SpreadsColumn grid part at column first labels seen reached before) where
  covered : (x : ℕ) → IsLive grid x column → (is_seen seen x ≡ true) ⊎ ((row ≡ x) ⊎ Contains rest x)
  covered x live = elim (state.covers x live) [
    | inl done ↦ inl done
    | inr h ↦ inr (head_or_behind row rest x (subst (λ (xs : List ℕ). Contains xs x) is h))
  ]

  left : (x : ℕ) → Contains rest x → IsLive grid x column
  left x h = state.rows x (subst (λ (xs : List ℕ). Contains xs x) (sym is) (behind row rest x h))

  pub next_row_is_live : IsLive grid row column
  next_row_is_live = state.rows row (subst (λ (xs : List ℕ). Contains xs row) (sym is) (at_head row rest))

  -- the next row is seen already
  pub column_skips : is_seen seen row ≡ true → SpreadsColumn grid part at column first labels seen reached rest
  column_skips done = record {
    spread = state.spread;
    kept = state.kept;
    within = state.within;
    here = state.here;
    covers = λ x live. elim (covered x live) [
      | inl seen ↦ inl seen
      | inr (inl e) ↦ inl (subst (λ y. is_seen seen y ≡ true) e done)
      | inr (inr h) ↦ inr h
    ];
    rows = left;
  }

  -- the part spreads over the next row
  pub column_gains : (labels' reached' : List ℕ) → is_seen seen row ≡ false → row < length seen → 0 < part → SpreadsRow grid row part labels reached labels' reached' []
      → SpreadsColumn grid part at column first labels' (set seen row true) reached' rest
  column_gains labels' reached' unseen lt some went = record {
    spread = row_seen grid part at row labels seen reached labels' reached' state.spread went unseen lt some state.within
        (subst (λ c. IsLive grid row c) (sym state.here) next_row_is_live);
    kept = Keeps-trans first labels labels' state.kept went.kept;
    within = let here = state.within in let longer = went.extends.longer in omega arith;
    here = went.extends.same at state.within ∙ state.here;
    covers = λ x live. elim (cases_eq x row) [
      | inl e ↦ inl (subst (λ y. is_seen (set seen row true) y ≡ true) (sym e) (get_or-set_same seen row true false lt))
      | inr ne ↦ elim (covered x live) [
        | inl done ↦ inl (get_or-set_other seen row x true false ne ∙ done)
        | inr (inl e) ↦ absurd (ne (sym e))
        | inr (inr h) ↦ inr h
      ]
    ];
    rows = left;
  }

-- after all rows of the column
pub column_ends : (grid : Layout) (part at column : ℕ) (first labels : List ℕ) (seen : List Bool) (reached rest : List ℕ) → rest ≡ []
    → SpreadsColumn grid part at column first labels seen reached rest → SpreadsOn grid part (at + 1) first labels seen reached
column_ends grid part at column first labels seen reached rest none state = record {
  spread = record {
    bound = state.spread.bound;
    linked = state.spread.linked;
    rows = state.spread.rows;
    listed = state.spread.listed;
    done = λ k row early below live. elim (cases_eq k at) [
      | inl e ↦ elim (state.covers row (subst (λ c. IsLive grid row c) (ap (λ i. get_or reached i 0) e ∙ state.here) live)) [
        | inl seen ↦ seen
        | inr h ↦ absurd (none_in row (subst (λ (xs : List ℕ). Contains xs row) none h))
      ]
      | inr ne ↦ state.spread.done k row (omega arith) below live
    ];
    current = λ k ge below. state.spread.current k (omega arith) below;
    count = state.spread.count;
  };
  kept = state.kept;
  within = let lt = state.within in omega arith;
}

-- the column at a place of the list is one of the grid's
pub reached_within : (grid : Layout) (part at : ℕ) (labels : List ℕ) (seen : List Bool) (reached : List ℕ) → IsSpread grid part at labels seen reached → at < length reached → 0 < part → get_or reached at 0 < length labels
reached_within grid part at labels seen reached state lt some =
    let here : part_of labels (get_or reached at 0) ≡ part = state.current at (omega arith) lt in
    labelled_within labels (get_or reached at 0) (omega (arith, here))

pub read_within : (grid : Layout) (part at column rows : ℕ) (labels : List ℕ) (seen : List Bool) (reached : List ℕ) → HasRoom grid (length labels) rows → IsSpread grid part at labels seen reached → at < length reached → 0 < part → column ≡ get_or reached at 0 → column < grid.columns
read_within grid part at column rows labels seen reached room state lt some is =
    let within = reached_within grid part at labels seen reached state lt some in
    let columns = room.columns_in in
    omega arith

-- no more columns are reached than there are
pub reached_few : (grid : Layout) (part at : ℕ) (labels : List ℕ) (seen : List Bool) (reached : List ℕ) → IsSpread grid part at labels seen reached → length reached ≤ length labels
reached_few grid part at labels seen reached state = let all = state.count in omega arith

pub spread_begins : (grid : Layout) (part at : ℕ) (labels : List ℕ) (seen : List Bool) (reached : List ℕ) → IsSpread grid part at labels seen reached → at ≤ length reached → SpreadsOn grid part at labels labels seen reached
spread_begins grid part at labels seen reached state le = record { spread = state; kept = λ c above. refl; within = le }

pub spread_goes_on : (grid : Layout) (part at : ℕ) (first labels labels' : List ℕ) (seen seen' : List Bool) (reached reached' : List ℕ)
    → SpreadsOn grid part at first labels seen reached → SpreadsOn grid part (at + 1) labels labels' seen' reached' → SpreadsOn grid part (at + 1) first labels' seen' reached'
spread_goes_on grid part at first labels labels' seen seen' reached reached' one two = record { spread = two.spread; kept = Keeps-trans first labels labels' one.kept two.kept; within = two.within }

pub spread_ends : (grid : Layout) (part at : ℕ) (first labels : List ℕ) (seen : List Bool) (reached : List ℕ) → length reached ≤ at → SpreadsOn grid part at first labels seen reached → SpreadsOn grid part (length reached) first labels seen reached
spread_ends grid part at first labels seen reached ge state =
    let same : at ≡ length reached = let le = state.within in omega arith in
    subst (λ a. SpreadsOn grid part a first labels seen reached) same state
