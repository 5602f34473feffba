use Rattle.std.proofs.Common.{Some, Ok, ap, ◌∙◌}
use Rattle.property.specs.Forming.{word_of, turn_of}
use Rattle.property.proofs.Turned.{byte_at, past-end, stands-name, stands-whole, stands-fault, stands-wait, stands-end, stands-short}
use Rattle.property.proofs.reader.TokenReader.next.Goals as goal

pub returns-in-Name : goal.returns-in-Name
returns-in-Name c =
    let s = c.loop-byte.self in
    let i = c.loop-byte.invariant in
    let n = c.name-token.ensures in
    let b = byte_at s.text.now s.cursor _ _ c.get.ensures.lookup c.in-Some.is in
    let r =
    stands-name s.capital s.cursor s.text.now _ _ s.behind i.0 i.1 _ _ _ _ b.0 (c.in-Name.ensures ∙ ap (turn_of s.capital) b.1) n.value n.cursor n.capital n.text
    in
    record {
      value = ap (λ x. Ok (Some (word_of c.name-token.result, x))) c.position-position.ensures ∙ r.0;
      unread = r.1.0;
      place = r.1.1;
    }

pub loop-byte-preserved : goal.loop-byte-preserved
loop-byte-preserved c =
    let s = c.loop-byte.self in
    let i = c.loop-byte.invariant in
    let a = c.advance.ensures in
    let b = byte_at s.text.now s.cursor _ _ c.get.ensures.lookup c.in-Some.is in
    stands-wait s.capital s.cursor s.text.now _ _ s.behind i.0 i.1 _ _ _ _ b.0 (c.in-Wait.ensures ∙ ap (turn_of s.capital) b.1) a.cursor a.capital (ap (λ x. x.now) a.text)

pub returns-in-Whole : goal.returns-in-Whole
returns-in-Whole c =
    let s = c.loop-byte.self in
    let i = c.loop-byte.invariant in
    let a = c.advance-in-Whole.ensures in
    let b = byte_at s.text.now s.cursor _ _ c.get.ensures.lookup c.in-Some.is in
    let r =
    stands-whole s.capital s.cursor s.text.now _ _ s.behind i.0 i.1 _ _ _ _ b.0 (c.in-Whole.ensures ∙ ap (turn_of s.capital) b.1) a.cursor a.capital (ap (λ x. x.now) a.text)
    in
    record {
      value = ap (λ x. Ok (Some (word_of c.in-Whole.token, x))) c.position-position.ensures ∙ r.0;
      unread = r.1.0;
      place = r.1.1;
    }

pub returns-in-Fault : goal.returns-in-Fault
returns-in-Fault c =
    let s = c.loop-byte.self in
    let i = c.loop-byte.invariant in
    let b = byte_at s.text.now s.cursor _ _ c.get.ensures.lookup c.in-Some.is in
    let r =
    stands-fault s.capital s.cursor s.text.now _ _ s.behind i.0 i.1 b.0 (c.in-Fault.ensures ∙ ap (turn_of s.capital) b.1)
    in record { value = r.0; unread = r.1.0; place = r.1.1 }

pub returns-in-None : goal.returns-in-None
returns-in-None c =
    let s = c.loop-byte.self in
    let i = c.loop-byte.invariant in
    let h = past-end s.text.now s.cursor _ c.get.ensures.lookup c.in_default.is in
    let r = stands-end s.capital s.cursor s.text.now _ _ s.behind i.0 i.1 h c.in-None.is in
    record { value = r.0; unread = r.1.0; place = r.1.1 }

pub returns-in-Some-capital : goal.returns-in-Some-capital
returns-in-Some-capital c =
    let s = c.loop-byte.self in
    let i = c.loop-byte.invariant in
    let h = past-end s.text.now s.cursor _ c.get.ensures.lookup c.in_default.is in
    let r =
    stands-short s.capital s.cursor s.text.now _ _ s.behind i.0 i.1 c.in-Some-capital.field-0 h c.in-Some-capital.is
    in record { value = r.0; unread = r.1.0; place = r.1.1 }
