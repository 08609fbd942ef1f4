-- marks of views: those of a list, and those of one more
use Rattle.std.proofs.Common.{◌≡◌, ◌∙◌, sym, ap, refl, subst, ℕ, suc, ◌+◌, ◌-◌, ◌<◌, ◌≤◌, ◌==◌, Bool, true, false, ◌||◌, List, [], ◌∷◌, ◌++◌, length, get_or, take, arith, if◌then◌else◌}
use Rattle.std.specs.Prelude.{flat_map, option_map, unwrap_or, slice_get, Some}
use Rattle.std.proofs.lemmas.List.{append_assoc, append-nil, take_more}
use Rattle.std.proofs.lemmas.Option.{slice_get-get_or, slice_get_past}
use Rattle.std.proofs.lemmas.List.Folds.{list_any-append}
use Rattle.tiql_query.specs.declared.relation.Source.{Source}
use Rattle.tiql_query.specs.declared.relation.Source.TheVariants as sources
use Rattle.tiql_query.specs.declared.view.Select.{Select}
use Rattle.tiql_query.specs.declared.view.QView.{QView}
use Rattle.world_def.specs.Views.{is_among, views_among, reads, reads_at, wanted, wanted_from}
use Rattle.world_def.specs.Making.{AreMarks, Marks}

or_more : (a b c : Bool) → ((a || b) || c) ≡ (a || (b || c))
or_more true b c = refl
or_more false b c = refl

or_none : (a : Bool) → a ≡ (a || false)
or_none true = refl
or_none false = refl

among_both : (xs ys : List ℕ) (k : ℕ) → is_among (xs ++ ys) k ≡ (is_among xs k || is_among ys k)
among_both xs ys k = list_any-append (λ (n : ℕ). n == k) xs ys

pub marks_none : (marks : List Bool) → Marks [] marks marks
marks_none marks = record { long = refl; right = λ k lt. or_none (get_or marks k false) }

pub marks_more : (xs ys : List ℕ) (first next last : List Bool) → Marks xs first next → Marks ys next last → Marks (xs ++ ys) first last
marks_more xs ys first next last one two = record {
  long = two.long ∙ one.long;
  right = λ k lt. let here : k < length next = rw one.long lt in
      two.right k here ∙ ap (λ b. b || is_among ys k) (one.right k lt) ∙ or_more (get_or first k false) (is_among xs k) (is_among ys k) ∙ ap (λ b. get_or first k false || b) (sym (among_both xs ys k));
}

-- marks of more numbers
pub are_marked : (these more : List ℕ) (marks after : List Bool) → AreMarks these marks → Marks more marks after → AreMarks (these ++ more) after
are_marked these more marks after are one k lt =
    let here : k < length marks = rw (sym one.long) lt in
    one.right k here ∙ ap (λ b. b || is_among more k) (are k here) ∙ sym (among_both these more k)

-- ---- sources and selects, one after the other

pub views_among-append : (xs ys : List Source) → views_among (xs ++ ys) ≡ views_among xs ++ views_among ys
unfolding views_among
views_among-append [] ys = refl
views_among-append (sources.Table n ∷ xs) ys = views_among-append xs ys
views_among-append (sources.Hypo n ∷ xs) ys = views_among-append xs ys
views_among-append (sources.View n ∷ xs) ys = ap (λ l. n ∷ l) (views_among-append xs ys)

pub no_source_marked : (marks : List Bool) → Marks (views_among []) marks marks
unfolding views_among
no_source_marked marks = marks_none marks

pub source_marked : (items : List Source) (i : ℕ) (source : Source) (first next last : List Bool) → i < length items
    → Marks (views_among (take i items)) first next → Marks (views_among (get_or items i source ∷ [])) next last → Marks (views_among (take (i + 1) items)) first last
source_marked items i source first next last lt one two =
    let same : views_among (take i items) ++ views_among (get_or items i source ∷ []) ≡ views_among (take (i + 1) items) =
    sym (views_among-append (take i items) (get_or items i source ∷ [])) ∙ ap views_among (sym (take_more items i source lt)) in
    subst (λ (l : List ℕ). Marks l first last) same (marks_more (views_among (take i items)) (views_among (get_or items i source ∷ [])) first next last one two)

-- what selects read
abbrev pub read_by : List Select → List ℕ
read_by arms = flat_map (λ select. views_among select.sources) arms

read_by-append : (xs ys : List Select) → read_by (xs ++ ys) ≡ read_by xs ++ read_by ys
read_by-append [] ys = refl
read_by-append (x ∷ xs) ys = ap (λ l. views_among x.sources ++ l) (read_by-append xs ys) ∙ sym (append_assoc (views_among x.sources) (read_by xs) (read_by ys))

pub select_marked : (arms : List Select) (i : ℕ) (select : Select) (first next last : List Bool) → i < length arms → select ≡ get_or arms i select
    → Marks (read_by (take i arms)) first next → Marks (views_among select.sources) next last → Marks (read_by (take (i + 1) arms)) first last
select_marked arms i select first next last lt is one two =
    let same : read_by (take i arms) ++ views_among select.sources ≡ read_by (take (i + 1) arms) =
    ap (λ l. read_by (take i arms) ++ l) (sym (append-nil (views_among select.sources))) ∙ sym (read_by-append (take i arms) (select ∷ []))
    ∙ ap read_by (ap (λ s. take i arms ++ s ∷ []) is ∙ sym (take_more arms i select lt)) in
    subst (λ (l : List ℕ). Marks l first last) same (marks_more (read_by (take i arms)) (views_among select.sources) first next last one two)

-- ---- from a view down

-- these are marked, and the marks below `at` are still to be looked at
abbrev pub IsLeft : List QView → List ℕ → ℕ → List Bool → Type 0
IsLeft views whole at marks = (these : List ℕ) × AreMarks these marks × (wanted_from views at these ≡ whole)

step-in : (views : List QView) (n : ℕ) (these : List ℕ) → is_among these n ≡ true → wanted_from views (suc n) these ≡ wanted_from views n (these ++ reads_at views n)
unfolding wanted_from
step-in views n these e = ap (λ b. wanted_from views n (if b then these ++ reads_at views n else these)) e

step-past : (views : List QView) (n : ℕ) (these : List ℕ) → is_among these n ≡ false → wanted_from views (suc n) these ≡ wanted_from views n these
unfolding wanted_from
step-past views n these e = ap (λ b. wanted_from views n (if b then these ++ reads_at views n else these)) e

-- what the view in a place reads
pub reads_there : (views : List QView) (n : ℕ) (view : QView) → slice_get views n ≡ Some view → reads_at views n ≡ reads view
unfolding reads_at
reads_there views n view e = ap (λ found. unwrap_or (option_map reads found) []) e

-- one that is not there reads nothing
pub reads_past : (views : List QView) (n : ℕ) → length views ≤ n → reads_at views n ≡ []
unfolding reads_at
reads_past views n le = ap (λ found. unwrap_or (option_map reads found) []) (slice_get_past views n le)

pub left_first : (views : List QView) (number : ℕ) (marks : List Bool) → length marks ≡ number + 1 → AreMarks (number ∷ []) marks → IsLeft views (wanted views number) (length marks) marks
left_first views number marks long are = (number ∷ [], are, ap (λ n. wanted_from views n (number ∷ [])) (let k : length marks ≡ suc number = omega (arith, long) in k))

pub left_last : (views : List QView) (whole : List ℕ) (n : ℕ) (marks : List Bool) → n ≤ 0 → IsLeft views whole n marks → AreMarks whole marks
unfolding wanted_from
left_last views whole n marks le left =
    let none : 0 ≡ n = omega arith in
    subst (λ (l : List ℕ). AreMarks l marks) (ap (λ n. wanted_from views n left.0) none ∙ left.2) left.1

module _ (views : List QView) (whole : List ℕ) (n : ℕ) (marks : List Bool) (some : 0 < n) (lt : n - 1 < length marks) (left : IsLeft views whole n marks) where
  last : n ≡ suc (n - 1)
  last = omega arith

  pub left_marked : (view : QView) (after : List Bool) → n - 1 < length views → view ≡ get_or views (n - 1) view → get_or marks (n - 1) false ≡ true → Marks (reads view) marks after → IsLeft views whole (n - 1) after
  left_marked view after there is set more =
      let here : slice_get views (n - 1) ≡ Some view = slice_get-get_or views (n - 1) view there ∙ ap (λ v. Some v) (sym is) in (
        left.0 ++ reads view,
        are_marked left.0 (reads view) marks after left.1 more,
        ap (λ l. wanted_from views (n - 1) (left.0 ++ l)) (sym (reads_there views (n - 1) view here)) ∙ sym (step-in views (n - 1) left.0 (sym (left.1 (n - 1) lt) ∙ set))
            ∙ ap (λ n. wanted_from views n left.0) (sym last) ∙ left.2,
      )

  pub left_other : get_or marks (n - 1) false ≡ false → IsLeft views whole (n - 1) marks
  left_other set = (left.0, left.1, sym (step-past views (n - 1) left.0 (sym (left.1 (n - 1) lt) ∙ set)) ∙ ap (λ n. wanted_from views n left.0) (sym last) ∙ left.2)
