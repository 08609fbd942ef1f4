use Rattle.std.proofs.Common.{sym, subst}
use Rattle.std.specs.Prelude.{All}
use Rattle.tiql_lex.specs.Places.{mark_size}
use Rattle.tiql_read.specs.Stops.{IsWithin}
use Rattle.tiql_read.proofs.Told.{tokens_within, known, left_within, spelled, only_tree, only_wrong, only_behind, stop_wrong, stop_behind}
use Rattle.tiql_read.proofs.reader.read_query.Goals as goal

pub words_of-requires : goal.words_of-requires
words_of-requires c =
    subst (λ ts. All (IsWithin c.args.bytes.now) ts) (sym c.as_slice.ensures) (tokens_within c.args.bytes.now (mark_size c.args.bytes.now) c.in_ok-lexed.lexed.tokens c.in_ok-lexed.ensures.tokens)

pub returns-in-None-clause-tree : goal.returns-in-None-clause-tree
returns-in-None-clause-tree c =
    spelled _ _ _ (known c.args.bytes.now c.in_ok-lexed.lexed c.as_slice.result.now c.in_ok-words.words c.as_slice-2.result.now c.in_ok-lexed.ensures c.as_slice.ensures c.in_ok-words.ensures.words c.in_ok-words.ensures.places c.as_slice-2.ensures)
    c.in-Ok.tree c.in-Ok.ensures c.in-None.is

pub returns-in-None-clause-only : goal.returns-in-None-clause-only
returns-in-None-clause-only c = λ tree s other.
    only_tree _ _ _ (known c.args.bytes.now c.in_ok-lexed.lexed c.as_slice.result.now c.in_ok-words.words c.as_slice-2.result.now c.in_ok-lexed.ensures c.as_slice.ensures c.in_ok-words.ensures.words c.in_ok-words.ensures.places c.as_slice-2.ensures)
    c.in-Ok.tree c.in-Ok.ensures tree s

pub returns-in-Ok-clause-only : goal.returns-in-Ok-clause-only
returns-in-Ok-clause-only c = λ tree s other.
    absurd (only_behind _ _ _ (known c.args.bytes.now c.in_ok-lexed.lexed c.as_slice.result.now c.in_ok-words.words c.as_slice-2.result.now c.in_ok-lexed.ensures c.as_slice.ensures c.in_ok-words.ensures.words c.in_ok-words.ensures.places c.as_slice-2.ensures)
    c.in-Some.place c.in-Some.is tree s)

pub returns-in-Ok-clause-stop : goal.returns-in-Ok-clause-stop
returns-in-Ok-clause-stop c = λ place same.
    stop_behind _ _ _ (known c.args.bytes.now c.in_ok-lexed.lexed c.as_slice.result.now c.in_ok-words.words c.as_slice-2.result.now c.in_ok-lexed.ensures c.as_slice.ensures c.in_ok-words.ensures.words c.in_ok-words.ensures.places c.as_slice-2.ensures)
    c.in-Ok.tree c.in-Some.place place c.in-Ok.ensures c.in-Some.is same

pub place_of-requires : goal.place_of-requires
place_of-requires c =
    left_within _ _ _ (known c.args.bytes.now c.in_ok-lexed.lexed c.as_slice.result.now c.in_ok-words.words c.as_slice-2.result.now c.in_ok-lexed.ensures c.as_slice.ensures c.in_ok-words.ensures.words c.in_ok-words.ensures.places c.as_slice-2.ensures)
    c.in-Err-Wrong.left (c.in-Err-Wrong.ensures _ c.in-Err-Wrong.field-0-is)

pub returns-in-Err-Wrong-clause-only : goal.returns-in-Err-Wrong-clause-only
returns-in-Err-Wrong-clause-only c = λ tree s other.
    absurd (only_wrong _ _ _ (known c.args.bytes.now c.in_ok-lexed.lexed c.as_slice.result.now c.in_ok-words.words c.as_slice-2.result.now c.in_ok-lexed.ensures c.as_slice.ensures c.in_ok-words.ensures.words c.in_ok-words.ensures.places c.as_slice-2.ensures)
    c.in-Err-Wrong.left (c.in-Err-Wrong.ensures _ c.in-Err-Wrong.field-0-is) tree s)

pub returns-in-Err-Wrong-clause-stop : goal.returns-in-Err-Wrong-clause-stop
returns-in-Err-Wrong-clause-stop c = λ place same.
    stop_wrong _ _ _ (known c.args.bytes.now c.in_ok-lexed.lexed c.as_slice.result.now c.in_ok-words.words c.as_slice-2.result.now c.in_ok-lexed.ensures c.as_slice.ensures c.in_ok-words.ensures.words c.in_ok-words.ensures.places c.as_slice-2.ensures)
    c.in-Err-Wrong.left c.place_of.result place (c.in-Err-Wrong.ensures _ c.in-Err-Wrong.field-0-is) c.place_of.ensures same
