-- A record with one or two fields put anew. `abbrev`, so that every other field of the result computes to the old one.
use Rattle.std.specs.Prelude.{Bool, List, ℕ}
use Rattle.model.specs.declared.Role.{Role}
use Rattle.model.specs.declared.Capability.{Capability}
use Rattle.model.specs.declared.Session.{Session}
use Rattle.model.specs.declared.Register.{Register}

-- ---- a capability: what calls change of it, in the order of its fields; the rest is as create made it

abbrev renewed : Capability → (permissions lent holders limit uses creations hops : ℕ) → Bool → Capability
renewed c permissions lent holders limit uses creations hops revoked =
    record {
      origin = c.origin;
      creator = c.creator;
      permissions = permissions;
      lent = lent;
      holders = holders;
      first = c.first;
      last = c.last;
      use_limit = limit;
      uses = uses;
      creation_limit = c.creation_limit;
      creations = creations;
      hop_limit = c.hop_limit;
      hops = hops;
      hours = c.hours;
      places = c.places;
      devices = c.devices;
      revoked = revoked;
    }

abbrev pub with_permissions : Capability → ℕ → Capability
with_permissions c p = renewed c p c.lent c.holders c.use_limit c.uses c.creations c.hops c.revoked

abbrev pub with_lent : Capability → ℕ → Capability
with_lent c m = renewed c c.permissions m c.holders c.use_limit c.uses c.creations c.hops c.revoked

abbrev pub with_holders : Capability → ℕ → ℕ → Capability
with_holders c m n = renewed c c.permissions c.lent m c.use_limit c.uses c.creations n c.revoked

abbrev pub with_use_limit : Capability → ℕ → Capability
with_use_limit c n = renewed c c.permissions c.lent c.holders n c.uses c.creations c.hops c.revoked

abbrev pub with_uses : Capability → ℕ → Capability
with_uses c n = renewed c c.permissions c.lent c.holders c.use_limit n c.creations c.hops c.revoked

abbrev pub with_creations : Capability → ℕ → Capability
with_creations c n = renewed c c.permissions c.lent c.holders c.use_limit c.uses n c.hops c.revoked

abbrev pub with_revoked : Capability → Bool → Capability
with_revoked c b = renewed c c.permissions c.lent c.holders c.use_limit c.uses c.creations c.hops b

-- ---- a role: its permissions and its appointed users change

abbrev renewed_role : Role → (permissions appointed : ℕ) → Role
renewed_role x permissions appointed =
    record {
      founded = x.founded;
      domain = x.domain;
      permissions = permissions;
      hours = x.hours;
      places = x.places;
      devices = x.devices;
      appointed = appointed;
    }

abbrev pub with_role_permissions : Role → ℕ → Role
with_role_permissions x p = renewed_role x p x.appointed

abbrev pub with_appointed : Role → ℕ → Role
with_appointed x m = renewed_role x x.permissions m

-- ---- the register, field by field

abbrev register : (clock enrolled : ℕ) → List ℕ → List Role → ℕ → List Capability → List Session → Register
register clock enrolled domains roles count cs ss =
    record {
      clock = clock;
      enrolled = enrolled;
      domains = domains;
      roles = roles;
      count = count;
      capabilities = cs;
      sessions = ss;
    }

abbrev pub with_clock : Register → ℕ → Register
with_clock r t = register t r.enrolled r.domains r.roles r.count r.capabilities r.sessions

abbrev pub with_users : Register → ℕ → List ℕ → Register
with_users r m ds = register r.clock m ds r.roles r.count r.capabilities r.sessions

abbrev pub with_roles : Register → List Role → Register
with_roles r xs = register r.clock r.enrolled r.domains xs r.count r.capabilities r.sessions

abbrev pub with_capabilities : Register → List Capability → Register
with_capabilities r cs = register r.clock r.enrolled r.domains r.roles r.count cs r.sessions

abbrev pub with_count : Register → ℕ → List Capability → Register
with_count r n cs = register r.clock r.enrolled r.domains r.roles n cs r.sessions

abbrev pub with_sessions : Register → List Session → Register
with_sessions r ss = register r.clock r.enrolled r.domains r.roles r.count r.capabilities ss
