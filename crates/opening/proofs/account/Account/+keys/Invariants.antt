use Rattle.opening.proofs.account.Account.+keys.Given as goal

abbrev pub decreases-keys : goal.decreases-keys
decreases-keys l = l.node
