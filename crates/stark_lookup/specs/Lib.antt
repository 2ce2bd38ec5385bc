pub mod OwnLookups
pub mod LookupErrors
pub mod LookupDraws
pub mod LookupVerdict
pub mod LookupSound
