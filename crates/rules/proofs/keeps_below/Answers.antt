use mathlib.Core.Path.{◌∙◌}
use borrow.Author.Rules.{rules}
use Rattle.rules.proofs.Agreement.{register_agrees, blank_rest}
use Rattle.rules.proofs.keeps_below.Goals as goal

pub returns : goal.returns
returns c =
    let r = c.args.r in
    register_agrees r
    c.users_keep-users.result c.roles_keep-roles.result c.capabilities_keep-capabilities.result c.sessions_keep-sessions.result
    (search rules) (search rules) (search rules) (search rules) (search rules) (search rules)
    (search) (search)
    (λ few. c.capabilities_keep-capabilities.ensures few ∙ blank_rest r c.args.bound (search) (c.requires.1 few))
    (search)
