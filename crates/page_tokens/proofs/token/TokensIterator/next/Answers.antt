use Rattle.std.proofs.Common.{◌≡◌, ◌∷◌, length, Some, ap, rules}
use Rattle.page_tokens.specs.Symbols.{symbols, symbol_of, first_token}
use Rattle.page_tokens.proofs.SymbolLaws.{symbols_front, token_front}
use Rattle.page_tokens.proofs.token.TokensIterator.next.Goals as goal

pub returns-in_err-token-clause-steps : goal.returns-in_err-token-clause-steps
unfolding symbols
returns-in_err-token-clause-steps c =
    let f = symbols_front c.args.self.now.rest.now _ c.read_front.result c.split_front.ensures.left c.read_front.ensures in
    search rules

pub returns-clause-steps : goal.returns-clause-steps
returns-clause-steps c =
    let f = symbols_front c.args.self.now.rest.now _ c.read_front.result c.split_front.ensures.left c.read_front.ensures in
    let t = token_front c.args.self.now.rest.now _ c.read_front.result c.split_front.ensures.left c.read_front.ensures in
    let first : symbols c.args.self.now.rest.now ≡ symbol_of c.in_ok-token.token ∷ symbols c.in_ok-token.rest.now = search rules in
    let piece : first_token c.args.self.now.rest.now ≡ Some (symbol_of c.in_ok-token.token, c.in_ok-token.rest.now) = search rules in
    (first, piece)

pub returns-clause-goes : goal.returns-clause-goes
returns-clause-goes c =
    let s = ap length (returns-clause-steps c).0 in
    search rules
