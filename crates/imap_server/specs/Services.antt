-- A server as imap_session sees it.
use Rattle.imap_server.specs.declared.condition.ConnectionState.{ConnectionState}
use Rattle.imap_server.specs.declared.condition.ConnectionState.TheVariants as here
use Rattle.imap_session.specs.Servers as session

abbrev pub condition_of : ConnectionState → session.Condition
condition_of here.NotAuthenticated = session.NotAuthenticated
condition_of here.Authenticated = session.Authenticated
condition_of (here.Selected name) = session.Selected name
condition_of here.LoggedOut = session.LoggedOut
