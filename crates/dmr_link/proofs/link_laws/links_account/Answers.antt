use Rattle.dmr_link.proofs.LinksAccount.{accounts}
use Rattle.dmr_link.proofs.link_laws.links_account.Goals as goal

pub returns : goal.returns
returns c = accounts
