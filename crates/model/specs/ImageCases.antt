-- One register with one of everything and its image, byte by byte; and the entry point's buffer, line and order of refusals.
-- Bytes and answers were worked out from document 01 by hand. `proofs/ImageCases.antt` proves them.
use Rattle.std.specs.Prelude.{◌≡◌, true, List, [], ◌∷◌, ◌++◌, ℕ, pos, negsuc, replicate}
use Rattle.masks.specs.Bytes.{bytes}
use Rattle.model.specs.declared.Origin.{Origin}
use Rattle.model.specs.declared.Origin.TheVariants.{Role as ofRole, Capability as ofCapability}
use Rattle.model.specs.declared.Register.{Register}
use Rattle.model.specs.State.{fresh, context_of, plan_of}
use Rattle.model.specs.Rulings.{value, refused}
use Rattle.model.specs.Calls.{Call, enrol, found, grant, appoint, clock, create, allow, lend, hand, opening, revoke, close}
use Rattle.model.specs.Image.{encode, loads, saved_buffer}
use Rattle.model.specs.Entry.{Return, declined, done, entry, returned, buffer_after}
use Rattle.model.specs.Lists.{save, perform, run, calls}
use Rattle.model.specs.Edges.{Exchange, ◌gets◌, asked, Answered}
use Rattle.model.specs.JournalCases.{line}

-- ---- the register

-- every session is opened, and every capability created, in hour 20, place 9, with device 3
abbrev pub open_in_20 : (session user : ℕ) → Origin → Call
open_in_20 session user o = opening session user o (context_of 20 9 3)

-- four users, two roles, capability 0 in which no field is 0, capability 1 from it, revoked, and three sessions;
-- a number of several bytes is hexadecimal, so that its bytes are seen
abbrev pub everything : List Exchange
everything =
    clock 0x05060708 gets value 0
    ∷ enrol 1 3 gets value 0
    ∷ enrol 10 5 gets value 0
    ∷ enrol 20 7 gets value 0
    ∷ enrol 63 3 gets value 0
    ∷ found 2 5 0x010203 0x0405 0x0607 gets value 0
    ∷ found 12 3 16777215 65535 65535 gets value 0
    ∷ grant 12 0 gets value 0
    ∷ grant 12 9 gets value 0
    ∷ grant 12 18 gets value 0
    ∷ grant 12 27 gets value 0
    ∷ appoint 1 12 gets value 0
    ∷ appoint 63 12 gets value 0
    ∷ create 1 (ofRole 12) (context_of 20 9 3) (plan_of 0x01020304 0x090a0b0c 0x0d0e 0x0f10 0x1112 0x131415 0x1617 0x1819) gets value 0
    ∷ allow 1 0 0x00040201 gets value 0x00040201
    ∷ lend 1 0 0x00001000 gets value 0x08040201
    ∷ hand 1 1 0 gets value 1
    ∷ hand 1 10 0 gets value 2
    ∷ create 10 (ofCapability 0) (context_of 20 9 3) (plan_of 0x01020305 0x090a0b0b 0 0 0 0 0 0) gets value 1
    ∷ revoke 10 1 gets value 1
    ∷ open_in_20 62 1 (ofCapability 0) gets value 0
    ∷ close 62 gets value 0
    ∷ open_in_20 62 1 (ofCapability 0) gets value 0
    ∷ open_in_20 14 10 (ofCapability 0) gets value 0
    ∷ open_in_20 5 63 (ofRole 12) gets value 0
    ∷ []

abbrev pub full : Register
full = run fresh (calls (asked everything))

-- ---- its image: numbers have their high byte first, maps item 0 in the lowest bit of their first byte

abbrev pub image : List ℕ
image =
    5 ∷ 6 ∷ 7 ∷ 8  -- clock
    ∷ 2 ∷ 4 ∷ 16 ∷ 0 ∷ 0 ∷ 0 ∷ 0 ∷ 128  -- map of users: 1, 10, 20, 63
    ∷ 3 ∷ 5 ∷ 7 ∷ 3  -- their domains
    ∷ 4 ∷ 16 ∷ 0 ∷ 0  -- map of roles: 2, 12
    -- role 2
    ∷ 5  -- domain
    ∷ 0 ∷ 0 ∷ 0 ∷ 0  -- permissions
    ∷ 1 ∷ 2 ∷ 3  -- hours
    ∷ 4 ∷ 5  -- places
    ∷ 6 ∷ 7  -- devices
    ∷ 0 ∷ 0 ∷ 0 ∷ 0 ∷ 0 ∷ 0 ∷ 0 ∷ 0  -- appointed
    -- role 12
    ∷ 3  -- domain
    ∷ 8 ∷ 4 ∷ 2 ∷ 1  -- permissions: 27, 18, 9, 0
    ∷ 255 ∷ 255 ∷ 255  -- hours
    ∷ 255 ∷ 255  -- places
    ∷ 255 ∷ 255  -- devices
    ∷ 2 ∷ 0 ∷ 0 ∷ 0 ∷ 0 ∷ 0 ∷ 0 ∷ 128  -- appointed: 1, 63
    ∷ 0 ∷ 2  -- count of capabilities
    -- capability 0
    ∷ 0  -- kind: from a role
    ∷ 12  -- its number
    ∷ 1  -- creator
    ∷ 0x3f ∷ 0xff  -- field map: fields 0 to 13
    ∷ 0 ∷ 4 ∷ 2 ∷ 1  -- 0 permissions: 18, 9, 0
    ∷ 0 ∷ 0 ∷ 0x10 ∷ 0  -- 1 lent roles: 12
    ∷ 2 ∷ 4 ∷ 0 ∷ 0 ∷ 0 ∷ 0 ∷ 0 ∷ 0  -- 2 holders: 1, 10
    ∷ 1 ∷ 2 ∷ 3 ∷ 4  -- 3 first tick
    ∷ 0x09 ∷ 0x0a ∷ 0x0b ∷ 0x0c  -- 4 last tick
    ∷ 0x0d ∷ 0x0e  -- 5 use limit
    ∷ 0 ∷ 3  -- 6 uses
    ∷ 0x0f ∷ 0x10  -- 7 creation limit
    ∷ 0 ∷ 1  -- 8 creations
    ∷ 0x11 ∷ 0x12  -- 9 hop limit
    ∷ 0 ∷ 2  -- 10 hops
    ∷ 0x13 ∷ 0x14 ∷ 0x15  -- 11 hours
    ∷ 0x16 ∷ 0x17  -- 12 places
    ∷ 0x18 ∷ 0x19  -- 13 devices
    -- capability 1
    ∷ 1  -- kind: from a capability
    ∷ 0  -- its number
    ∷ 10  -- creator
    ∷ 0x40 ∷ 0x18  -- field map: 3, 4, and the revoked mark 14
    ∷ 1 ∷ 2 ∷ 3 ∷ 5  -- 3 first tick
    ∷ 0x09 ∷ 0x0a ∷ 0x0b ∷ 0x0b  -- 4 last tick
    ∷ 32 ∷ 64 ∷ 0 ∷ 0 ∷ 0 ∷ 0 ∷ 0 ∷ 64  -- map of sessions: 5, 14, 62
    ∷ 63 ∷ 0 ∷ 12 ∷ 20 ∷ 9 ∷ 3  -- session 5: user, kind, number, hour, place, device
    ∷ 10 ∷ 1 ∷ 0 ∷ 20 ∷ 9 ∷ 3  -- session 14
    ∷ 1 ∷ 1 ∷ 0 ∷ 20 ∷ 9 ∷ 3  -- session 62
    ∷ []

-- ---- the entry point on a fresh register, with a line and a buffer of so many bytes

abbrev pub on_fresh : List ℕ → ℕ → Return
on_fresh text room = entry (replicate 26 0) text room

-- the image of a register with user 3 in domain 2: clock, map of users, domain, no role, no capability, no session
abbrev pub enrolled_3 : List ℕ
enrolled_3 = (0 ∷ 0 ∷ 0 ∷ 0 ∷ 8 ∷ 0 ∷ 0 ∷ 0 ∷ 0 ∷ 0 ∷ 0 ∷ 0 ∷ 2 ∷ []) ++ replicate 14 0

pub record ImageCases : Type 0 where
  -- the calls are accepted with these answers
  pub accepted : Answered everything
  -- order, width and byte order of every part and field, the two kinds, and which fields are left out
  pub encoded : encode full ≡ image
  -- load takes these bytes
  pub loaded : loads image ≡ true
  -- save answers their number, which is room enough
  pub saved : (perform full (save 149)).answer ≡ value 149
  -- one byte less is not
  pub saved_short : (perform full (save 148)).answer ≡ refused 16
  -- a fresh register has 26 bytes, though it loads from none; an area without bytes has no room for them
  pub saved_fresh : (perform fresh (save 26)).answer ≡ value 26
  pub saved_nowhere : (perform fresh (save 0)).answer ≡ refused 16
  -- save leaves the bytes after them
  pub saved_into : saved_buffer full (replicate 151 7) (value 149) ≡ image ++ (7 ∷ 7 ∷ [])

pub record EntryCases : Type 0 where
  -- 2 bytes beside the 27 of the new image are room enough
  pub room : on_fresh (line "enrol 3 2") 29 ≡ done 0 enrolled_3
  -- one byte less is not
  pub room_short : on_fresh (line "enrol 3 2") 28 ≡ declined 16
  -- the call's own refusal comes before 16
  pub own_before_room : on_fresh (line "enrol 64 2") 0 ≡ declined 2
  -- so does 1
  pub line_before_room : on_fresh (line "enrol 3") 0 ≡ declined 1
  -- 14 comes first of all
  pub image_before_line : entry (replicate 25 0) (line "enrol 3") 0 ≡ declined 14
  -- an image without bytes is a new client's, with the same room and the same refusals; one zero byte is none
  pub new_client : entry [] (line "enrol 3 2") 29 ≡ done 0 enrolled_3
  pub new_client_room : entry [] (line "enrol 3 2") 28 ≡ declined 16
  pub new_client_own : entry [] (line "check 0 0 0 0 0") 99 ≡ declined 3
  pub new_client_line : entry [] [] 0 ≡ declined 1
  pub one_byte : entry (0 ∷ []) (line "enrol 3 2") 29 ≡ declined 14
  -- the line has its line feed
  pub unended : on_fresh (bytes "enrol 3 2") 29 ≡ declined 1
  -- it is one line
  pub two_lines : on_fresh (line "enrol 3 2" ++ line "enrol 4 2") 99 ≡ declined 1
  -- a refusal is returned as a negative number: `negsuc 15` is -16
  pub negative : returned (on_fresh (line "enrol 3 2") 28) ≡ negsuc 15
  -- refused, the buffer stays
  pub untouched : buffer_after (on_fresh (line "enrol 3 2") 28) (replicate 28 7) ≡ replicate 28 7
  -- accepted, the value is returned: user 10 of session 14 has permission 9
  pub positive : returned (entry image (line "check 14 9 20 9 3") 151) ≡ pos 1
  -- accepted, the buffer has the image's length in 2 bytes, the image, and after it what it had
  pub filled : buffer_after (on_fresh (line "enrol 3 2") 31) (replicate 31 7) ≡ (0 ∷ 27 ∷ []) ++ enrolled_3 ++ (7 ∷ 7 ∷ [])
