-- Seeds as they are gathered, form by form.
use Rattle.std.specs.Prelude.{ℕ, List, [], ◌∷◌, ◌++◌}
use Rattle.prov_fold.specs.Graphs.{Graph}
use Rattle.bool_encode.specs.Forms.{Form}
use Rattle.program_rows.specs.Goals.{AreSeedsOf}

-- the seeds of one form more were appended
abbrev pub Sows : Graph → Form → List ℕ → List ℕ → Type 0
Sows g r before after = (forms : List Form) → AreSeedsOf g forms before → AreSeedsOf g (forms ++ r ∷ []) after
