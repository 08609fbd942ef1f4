-- where reading stops in a text
use Rattle.std.specs.Prelude.{ℕ, zero, suc, ◌-◌, ◌≤◌, List, length}
use Rattle.base_kit.specs.declared.place.Place.{Place}
use Rattle.tiql_lex.specs.declared.token.Token.{Token}
use Rattle.tiql_lex.specs.declared.token.Lexed.{Lexed}
use Rattle.tiql_tree.specs.Trees.{place}
use Rattle.tiql_tree.specs.Spelled.{places_of, end_place}

-- the token's bytes are among these
pub record IsWithin (bytes : List ℕ) (token : Token) : Type 0 where
  pub order : token.from ≤ token.to
  pub inside : token.to ≤ length bytes

-- the place of the token from which on so many are left, or else where the tokens stop
unfoldable pub stop_place : Lexed → ℕ → Place
stop_place lexed zero = end_place lexed.stop lexed.end
stop_place lexed (suc n) = place (length lexed.tokens - suc n) (places_of lexed.tokens)
