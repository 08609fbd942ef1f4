use Rattle.std.proofs.Common.{◌≡◌, subst, sym, Option, Some, ℤ, drop}
use Rattle.dict_pivot.specs.Dictionaries.{least_of, table}
use Rattle.dual_simplex.specs.declared.answer.Relaxed.{Relaxed}
use Rattle.dual_simplex.specs.declared.answer.Relaxed.TheVariants.{Wide}
use Rattle.dual_simplex.specs.declared.walk.Ended.{Ended}
use Rattle.dual_simplex.specs.Path.{FirstViolated, NoneViolated, NoneEnters, IsPast}
use Rattle.dual_simplex.specs.Shown.{Stands}
use Rattle.dual_simplex.specs.Endings.{IsEnded}
use Rattle.dual_simplex.specs.Evidence.{Shows}
use Rattle.dual_simplex.proofs.Rises.{path_rises}
use Rattle.dual_simplex.proofs.Outcomes.{on_ok, shape_width, shape_height, wide_pivot_shown}
use Rattle.dual_simplex.proofs.answer.relax.Goals as goal

pub past-requires-clause-width : goal.past-requires-clause-width
past-requires-clause-width c = shape_width c.args.lp.now c.requires.formed c.args.best c.in_ok-last.last.dict c.in_ok-last.ensures.least c.in_ok-last.ensures.dictionary c.in_ok-last.ensures.stands

pub past-requires-clause-height : goal.past-requires-clause-height
past-requires-clause-height c = shape_height c.args.lp.now c.requires.formed c.args.best c.in_ok-last.last.dict c.in_ok-last.ensures.least c.in_ok-last.ensures.stands

pub solved-requires-clause-width : goal.solved-requires-clause-width
solved-requires-clause-width c = shape_width c.args.lp.now c.requires.formed c.args.best c.in_ok-last.last.dict c.in_ok-last.ensures.least c.in_ok-last.ensures.dictionary c.in_ok-last.ensures.stands

pub solved-requires-clause-height : goal.solved-requires-clause-height
solved-requires-clause-height c = shape_height c.args.lp.now c.requires.formed c.args.best c.in_ok-last.last.dict c.in_ok-last.ensures.least c.in_ok-last.ensures.stands

pub stuck-requires-clause-width : goal.stuck-requires-clause-width
stuck-requires-clause-width c = shape_width c.args.lp.now c.requires.formed c.args.best c.in_ok-last.last.dict c.in_ok-last.ensures.least c.in_ok-last.ensures.dictionary c.in_ok-last.ensures.stands

pub stuck-requires-clause-height : goal.stuck-requires-clause-height
stuck-requires-clause-height c = shape_height c.args.lp.now c.requires.formed c.args.best c.in_ok-last.last.dict c.in_ok-last.ensures.least c.in_ok-last.ensures.stands

pub stuck-requires-clause-row : goal.stuck-requires-clause-row
stuck-requires-clause-row c = (subst (λ (e : Ended). IsEnded c.args.best c.in_ok-last.last.dict e) c.in-Stuck.is c.in_ok-last.ensures.ended).1.within

pub returns-in-Past-clause-shows : goal.returns-in-Past-clause-shows
returns-in-Past-clause-shows c = on_ok (λ (answer : Relaxed). (best : Option ℤ) → Stands c.args.lp.now best c.in_ok-last.last.dict → IsPast best (table c.in_ok-last.last.dict) → Shows c.args.lp.now best answer) (Shows c.args.lp.now c.args.best) c.past.result (λ x f. f c.args.best c.in_ok-last.ensures.stands (subst (λ (e : Ended). IsEnded c.args.best c.in_ok-last.last.dict e) c.in-Past.is c.in_ok-last.ensures.ended)) c.past.ensures

pub returns-in-Solved-clause-shows : goal.returns-in-Solved-clause-shows
returns-in-Solved-clause-shows c = on_ok (λ (answer : Relaxed). (best : Option ℤ) → Stands c.args.lp.now best c.in_ok-last.last.dict → (IsPast best (table c.in_ok-last.last.dict) → ⊥) → NoneViolated (least_of c.in_ok-last.last.dict.low) (table c.in_ok-last.last.dict) → Shows c.args.lp.now best answer) (Shows c.args.lp.now c.args.best) c.solved.result (λ x f. let e = (subst (λ (e : Ended). IsEnded c.args.best c.in_ok-last.last.dict e) c.in-Solved.is c.in_ok-last.ensures.ended) in f c.args.best c.in_ok-last.ensures.stands e.0 e.1) c.solved.ensures

pub returns-in-Stuck-clause-shows : goal.returns-in-Stuck-clause-shows
returns-in-Stuck-clause-shows c = on_ok (λ (answer : Relaxed). (best : Option ℤ) → Stands c.args.lp.now best c.in_ok-last.last.dict → (IsPast best (table c.in_ok-last.last.dict) → ⊥) → FirstViolated (least_of c.in_ok-last.last.dict.low) (table c.in_ok-last.last.dict) c.in-Stuck.row → NoneEnters (table c.in_ok-last.last.dict) c.in-Stuck.row → Shows c.args.lp.now best answer) (Shows c.args.lp.now c.args.best) c.stuck.result (λ x f. let e = (subst (λ (e : Ended). IsEnded c.args.best c.in_ok-last.last.dict e) c.in-Stuck.is c.in_ok-last.ensures.ended) in f c.args.best c.in_ok-last.ensures.stands e.0 e.1 e.2) c.stuck.ensures

pub returns-clause-shows : goal.returns-clause-shows
returns-clause-shows c = on_ok (λ (answer : Relaxed). answer ≡ Wide (record { basis = drop 1 c.in_ok-last.last.dict.free; pivot = Some c.in-Wide.at; cell = Some c.in-Wide.cell })) (Shows c.args.lp.now c.args.best) c.wide.result (λ x e. subst (Shows c.args.lp.now c.args.best) (sym e) (let h = (subst (λ (e : Ended). IsEnded c.args.best c.in_ok-last.last.dict e) c.in-Wide.is c.in_ok-last.ensures.ended) in wide_pivot_shown c.args.lp.now c.args.best c.in_ok-last.last.dict c.in-Wide.at c.in-Wide.cell c.in_ok-last.ensures.stands h.0 h.1)) c.wide.ensures

pub returns-in_err-last-clause-rises : goal.returns-in_err-last-clause-rises
returns-in_err-last-clause-rises c = path_rises c.args.lp.now c.requires.formed c.args.best

pub returns-in-Past-clause-rises : goal.returns-in-Past-clause-rises
returns-in-Past-clause-rises c = path_rises c.args.lp.now c.requires.formed c.args.best

pub returns-in-Solved-clause-rises : goal.returns-in-Solved-clause-rises
returns-in-Solved-clause-rises c = path_rises c.args.lp.now c.requires.formed c.args.best

pub returns-in-Stuck-clause-rises : goal.returns-in-Stuck-clause-rises
returns-in-Stuck-clause-rises c = path_rises c.args.lp.now c.requires.formed c.args.best

pub returns-clause-rises : goal.returns-clause-rises
returns-clause-rises c = path_rises c.args.lp.now c.requires.formed c.args.best
