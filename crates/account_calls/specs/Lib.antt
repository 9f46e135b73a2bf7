pub mod AccountCalls
